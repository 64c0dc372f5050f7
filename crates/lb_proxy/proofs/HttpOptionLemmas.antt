-- Lemmas on the options that a value of `Connection` lists.
use Rattle.std.proofs.Common.{◌≡◌, ℕ, ◌+◌, ◌-◌, ◌<◌, ◌≤◌, true, false, ◌==◌, List, [], ◌∷◌, ◌++◌, length, take, drop, get_or, map}
use Rattle.std.proofs.Common.{slice_range, All}
use Rattle.std.proofs.Common.{refl, sym, ap, ◌∙◌, subst, arith, take-append-drop, length-drop, get_or-drop, append_assoc}
use Rattle.std.specs.List.{slice_split}
use Rattle.std.proofs.lemmas.List.{drop_more, take_more, drop-drop, take_all, map-append}
use Rattle.std.proofs.lemmas.Bool.Decides.{nat_tests}
use Rattle.httparse.specs.Grammar.{trim_ows}
use denote.Ref.{Bor}
use Rattle.std.proofs.lemmas.List.Elements.{All-nil, All-push}
use Rattle.std.proofs.lemmas.List.Splits.{slice_split_at, slice_split_none}

range_more : (value : List ℕ) (start index : ℕ) → start ≤ index → index < length value
    → slice_range value start (index + 1) ≡ slice_range value start index ++ get_or value index 0 ∷ []
range_more value start index ordered within =
    let n = index - start in
    let len : index + 1 - start ≡ n + 1 = omega arith in
    let place : start + n ≡ index = omega arith in
    let inside : n < length (drop start value) = omega (arith, length-drop start value) in
    rw (len, take_more (drop start value) n 0 inside, get_or-drop, place) refl

range_none : (value : List ℕ) (at : ℕ) → slice_range value at at ≡ []
range_none value at = let none : at - at ≡ 0 = omega arith in rw none refl

-- no byte of a part is a comma: so far, with one more, and where a part begins
abbrev pub IsClear : List ℕ → Type 0
IsClear bytes = All (λ b. (b == 44) ≡ false) bytes

pub clear_more : (value : List ℕ) (start index : ℕ) → start ≤ index → index < length value → IsClear (slice_range value start index)
    → (get_or value index 0 == 44) ≡ false → IsClear (slice_range value start (index + 1))
clear_more value start index ordered within clear one =
    subst IsClear (sym (range_more value start index ordered within))
    (All-push (λ b. (b == 44) ≡ false) (slice_range value start index) (get_or value index 0) clear one)

pub clear_none : (value : List ℕ) (at : ℕ) → IsClear (slice_range value at at)
clear_none value at = subst IsClear (sym (range_none value at)) (All-nil (λ b. (b == 44) ≡ false))

-- the part up to a comma, and the parts behind it
pub split_here : (value : List ℕ) (start index : ℕ) → start ≤ index → index < length value → IsClear (slice_range value start index)
    → (get_or value index 0 == 44) ≡ true
    → slice_split (λ b. b == 44) (drop start value) ≡ slice_range value start index ∷ slice_split (λ b. b == 44) (drop (index + 1) value)
split_here value start index ordered within clear here =
    let n = index - start in
    let place : start + n ≡ index = omega arith in
    let behind : drop n (drop start value) ≡ drop index value = drop-drop n start value ∙ ap (λ (m : ℕ). drop m value) place in
    let cut : drop start value ≡ slice_range value start index ++ get_or value index 0 ∷ drop (index + 1) value =
    sym (take-append-drop n (drop start value))
    ∙ ap (λ (l : List ℕ). take n (drop start value) ++ l) (behind ∙ drop_more value index 0 within) in
    ap (slice_split (λ b. b == 44)) cut
    ∙ slice_split_at (λ b. b == 44) (slice_range value start index) (get_or value index 0) (drop (index + 1) value) clear here

-- the last part
pub split_last : (value : List ℕ) (start : ℕ) → start ≤ length value → IsClear (slice_range value start (length value))
    → slice_split (λ b. b == 44) (drop start value) ≡ slice_range value start (length value) ∷ []
split_last value start within clear =
    let whole : slice_range value start (length value) ≡ drop start value =
    take_all (length value - start) (drop start value) (omega (arith, length-drop start value)) in
    ap (slice_split (λ b. b == 44)) (sym whole) ∙ slice_split_none (λ b. b == 44) (slice_range value start (length value)) clear

-- ---- the options so far, and those in what is left of the value

abbrev bytes_of : List (Bor (List ℕ)) → List (List ℕ)
bytes_of options = map (λ o. o.now) options

abbrev parts_of : List ℕ → List (List ℕ)
parts_of value = map trim_ows (slice_split (λ b. b == 44) value)

pub no_comma : (b : ℕ) → (b ≡ 44 → ⊥) → (b == 44) ≡ false
no_comma b other = grind (arith, nat_tests)

pushed : (options new : List (Bor (List ℕ))) (part : Bor (List ℕ)) (bytes : List ℕ) → part.now ≡ bytes → new ≡ options ++ part ∷ []
    → bytes_of new ≡ bytes_of options ++ bytes ∷ []
pushed options new part bytes is new_is =
    ap (λ (l : List (Bor (List ℕ))). bytes_of l) new_is ∙ map-append (λ (o : Bor (List ℕ)). o.now) options (part ∷ [])
    ∙ ap (λ (b : List ℕ). bytes_of options ++ b ∷ []) is

pub comma_same : (value : List ℕ) (start index next : ℕ) (options new : List (Bor (List ℕ))) (part : Bor (List ℕ)) (all : List (List ℕ))
    → start ≤ index → index < length value → IsClear (slice_range value start index) → get_or value index 0 ≡ 44
    → part.now ≡ trim_ows (slice_range value start index) → new ≡ options ++ part ∷ [] → next ≡ index + 1
    → bytes_of options ++ parts_of (drop start value) ≡ all → bytes_of new ++ parts_of (drop next value) ≡ all
comma_same value start index next options new part all ordered within clear comma is new_is next_is same =
    let here : (get_or value index 0 == 44) ≡ true = ap (λ (b : ℕ). b == 44) comma in
    let bytes = trim_ows (slice_range value start index) in
    let rest = parts_of (drop (index + 1) value) in
    ap (λ (n : ℕ). bytes_of new ++ parts_of (drop n value)) next_is
    ∙ ap (λ (l : List (List ℕ)). l ++ rest) (pushed options new part bytes is new_is)
    ∙ append_assoc (bytes_of options) (bytes ∷ []) rest
    ∙ ap (λ (l : List (List ℕ)). bytes_of options ++ map trim_ows l) (sym (split_here value start index ordered within clear here))
    ∙ same

pub last_same : (value : List ℕ) (start : ℕ) (options new : List (Bor (List ℕ))) (part : Bor (List ℕ)) (all : List (List ℕ))
    → start ≤ length value → IsClear (slice_range value start (length value))
    → part.now ≡ trim_ows (slice_range value start (length value)) → new ≡ options ++ part ∷ []
    → bytes_of options ++ parts_of (drop start value) ≡ all → bytes_of new ≡ all
last_same value start options new part all within clear is new_is same =
    pushed options new part (trim_ows (slice_range value start (length value))) is new_is
    ∙ ap (λ (l : List (List ℕ)). bytes_of options ++ map trim_ows l) (sym (split_last value start within clear))
    ∙ same
