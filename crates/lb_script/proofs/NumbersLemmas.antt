-- Lemmas on the spelling of numbers.
use Rattle.std.proofs.Common.{rules, ◌≡◌, ◌≢◌, ℕ, ◌^◌, ◌<◌, true, false, List, [], ◌∷◌, Some, None, Result, Ok, Err, length, nat_lt}
use Rattle.std.proofs.Common.{slice_index, arith, refl, ap, inl, inr}
use Rattle.std.specs.Char.{is_ascii_digit}
use Rattle.std.specs.List.{list_all}
use Rattle.std.specs.Result.{result_ok}
use Rattle.std.specs.Str.Parse.{ParsesUnsigned, digits_value}
use Rattle.std.proofs.lemmas.Bool.{cases_Bool}
use Rattle.std.proofs.lemmas.Bool.Decides.{nat_tests}
use Rattle.std.proofs.lemmas.Grind.{common_steps}
use Rattle.std.proofs.lemmas.Str.Parse.{IsDigitsTest, IsNumeralModel, numerals_by_value, parse_digits, parse_plain}
use Rattle.lb_script.specs.Numbers.{is_number_text, has_plain_front, number_of}

digits_test : IsDigitsTest (λ word. list_all is_ascii_digit word ≡ true)
digits_test = search rules

digits_model : IsNumeralModel (λ word. list_all is_ascii_digit word ≡ true) (digits_value 10)
digits_model = numerals_by_value (λ word. list_all is_ascii_digit word ≡ true) digits_test

-- a number's text has a digit and digits alone
has_digit : (word : List ℕ) → is_number_text word ≡ true → (list_all is_ascii_digit word ≡ true) × (0 < length word)
has_digit word is = (grind (arith, common_steps), grind (arith, common_steps))

-- digits with a plain front are a number's text
is_text : (word : List ℕ) → has_plain_front word ≡ true → 0 < length word → list_all is_ascii_digit word ≡ true
    → is_number_text word ≡ true
is_text word plain some digits = grind (arith, common_steps)

-- with a plus, or a 0 before others, in front there is no number's text
plus_is_no_digit : (word : List ℕ) → slice_index word 0 ≡ 43 → list_all is_ascii_digit word ≡ true → 0 < length word → ⊥
plus_is_no_digit [] is digits some = omega arith
plus_is_no_digit (x ∷ xs) is digits some = grind (arith, common_steps)

no_plain_front : (word : List ℕ) → has_plain_front word ≡ false → is_number_text word ≡ true → ⊥
no_plain_front word front is =
    let some = has_digit word is in
    plus_is_no_digit word (grind (arith, common_steps)) some.0 some.1

no_text : (word : List ℕ) → has_plain_front word ≡ false → is_number_text word ≡ false
no_text word front = elim (cases_Bool (is_number_text word)) [ inl is ↦ absurd (no_plain_front word front is) | inr other ↦ other ]

no_plus : (word : List ℕ) → has_plain_front word ≡ true → slice_index word 0 ≢ 43
no_plus word plain is = grind (arith, common_steps)

fits_test : (n bound : ℕ) → n < bound → nat_lt n bound ≡ true
fits_test n bound less = grind (arith, nat_tests)

large_test : (n bound : ℕ) → (n < bound → ⊥) → nat_lt n bound ≡ false
large_test n bound large = grind (arith, nat_tests)

too_large : {E : Type 0} (k : ℕ) (word : List ℕ) (e : E) → ParsesUnsigned {E = E} k 10 word (Err e) → is_number_text word ≡ true
    → None ≡ number_of (2 ^ k) word
too_large {E = E} k word e h is =
    let some = has_digit word is in
    let d = parse_digits digits_model {E = E} k word (Err e) h some.0 in
    rw (is, large_test (digits_value 10 word) (2 ^ k) (λ less. d (some.1, less))) refl

-- what the library's `parse` gives for a text with a plain front
pub parse_number : {E : Type 0} (k : ℕ) (word : List ℕ) (r : Result ℕ E) → ParsesUnsigned k 10 word r → has_plain_front word ≡ true
    → result_ok r ≡ number_of (2 ^ k) word
parse_number {E = E} k word (Ok x) h plain =
    let d = parse_plain digits_model {E = E} k word (Ok x) h (no_plus word plain) in
    rw (is_text word plain d.0.1 d.0.0, fits_test (digits_value 10 word) (2 ^ k) d.0.2) (ap Some d.1)
parse_number {E = E} k word (Err e) h plain =
    elim (cases_Bool (is_number_text word)) [ inl is ↦ too_large {E = E} k word e h is | inr other ↦ rw other refl ]

-- a text without a plain front is no number's
pub no_number : (bound : ℕ) (word : List ℕ) → has_plain_front word ≡ false → number_of bound word ≡ None
no_number bound word is = rw (no_text word is) refl
