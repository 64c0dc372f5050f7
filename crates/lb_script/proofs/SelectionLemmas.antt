-- Lemmas on a selection that is read straight from the bytes of its line.
use Rattle.std.proofs.Common.{rules, IfSome, ◌≡◌, ◌≢◌, ◌∙◌, ◌+◌, ◌-◌, ◌*◌, ◌^◌, ◌<◌, ◌≤◌, ◌==◌, ◌&&◌, ℕ, zero, suc, true, false, List, []}
use Rattle.std.proofs.Common.{◌∷◌, ◌++◌, Option, Some, None, codes, length, take, drop, get_or, nat_lt, arith, refl, sym, ap, subst}
use Rattle.std.proofs.Common.{add-one, length-take, length-drop, take-append-drop, option_map}
use Rattle.std.specs.Char.{is_ascii_digit, digit_value}
use Rattle.std.specs.Int.{IsInRange}
use Rattle.std.specs.List.{All, list_all}
use Rattle.std.specs.Str.{IsAscii, is_utf8}
use Rattle.std.specs.Str.Parse.{digits_value}
use Rattle.std.proofs.Math.Seq.{drop-cons}
use Rattle.std.proofs.lemmas.Bool.Decides.{nat_tests}
use Rattle.std.proofs.lemmas.Grind.{common_steps}
use Rattle.std.proofs.lemmas.Int.Digits.{digits_value_more}
use Rattle.std.proofs.lemmas.List.{take_all}
use Rattle.std.proofs.lemmas.List.Elements.{All-from_get_or}
use Rattle.std.proofs.lemmas.List.Folds.{list_all_more}
use Rattle.std.proofs.lemmas.List.Splits.{slice_split_at, slice_split_none}
use Rattle.std.proofs.lemmas.Str.{digit_value_digit, is_utf8-from_IsUtf8, IsUtf8-from_ascii, IsAscii-append}
use Rattle.std.proofs.lemmas.Str.Ascii.{IsAscii-from_reads}
use Rattle.lb_world.specs.Steps.{Step}
use Rattle.lb_world.specs.Steps as step
use Rattle.lb_script.specs.declared.kinds.Kind.{Kind}
use Rattle.lb_script.specs.declared.selection.SelectionLine.{SelectionLine}
use Rattle.lb_script.specs.LineSteps.{selection_seen}
use Rattle.lb_script.specs.Numbers.{is_number_text, number_of}
use Rattle.lb_script.specs.StepLines.{small, select_of, step_of}
use Rattle.lb_script.specs.Words.{BeginsWith, IsPlainWord, words_of}

-- one digit more
digit_is : (byte : ℕ) → is_ascii_digit byte ≡ true → IsInRange 48 57 byte
digit_is byte is = grind (arith, nat_tests)

pub digit_back : (byte m : ℕ) → is_ascii_digit byte ≡ true → m ≡ byte - 48 → m + 48 ≡ byte
digit_back byte m is less = let range = digit_is byte is in omega arith

pub number_more : (bytes : List ℕ) (count n m : ℕ) → count < length bytes → n ≡ digits_value 10 (take count bytes)
    → is_ascii_digit (get_or bytes count 0) ≡ true → m + 48 ≡ get_or bytes count 0
    → n * 10 + m ≡ digits_value 10 (take (count + 1) bytes)
number_more bytes count n m within value digit is =
    let same : digit_value (get_or bytes count 0) + 48 ≡ get_or bytes count 0 = digit_value_digit (get_or bytes count 0)
    (digit_is _ digit) in
    let more : digits_value 10 (take (count + 1) bytes) ≡ digits_value 10 (take count bytes) * 10 + digit_value (get_or bytes count 0) =
    digits_value_more 10 bytes count within in
    omega arith

pub digits_more : (bytes : List ℕ) (count : ℕ) → count < length bytes → list_all is_ascii_digit (take count bytes) ≡ true
    → is_ascii_digit (get_or bytes count 0) ≡ true → list_all is_ascii_digit (take (count + 1) bytes) ≡ true
digits_more bytes count within all digit = rw (list_all_more is_ascii_digit bytes count 0 within, all, digit) refl

-- what digits spell
number_test : (word : List ℕ) → 0 < length word → (1 < length word → get_or word 0 0 ≢ 48) → list_all is_ascii_digit word ≡ true
    → is_number_text word ≡ true
number_test word some plain digits = grind (arith, common_steps, plain)

fits : (n bound : ℕ) → n < bound → nat_lt n bound ≡ true
fits n bound less = grind (arith, nat_tests)

pub spelled : (word : List ℕ) (n : ℕ) → 0 < length word → (1 < length word → get_or word 0 0 ≢ 48) → list_all is_ascii_digit word ≡ true
    → n ≡ digits_value 10 word → n < 2 ^ 64 → small word ≡ Some n
spelled word n some plain digits value small_enough =
    rw (number_test word some plain digits, sym value, fits n (2 ^ 64) small_enough) refl

-- digits are plain
digits_plain : (word : List ℕ) → list_all is_ascii_digit word ≡ true → (k : ℕ) → k < length word
    → ((get_or word k 0 == 32) ≡ false) × (get_or word k 0 < 128)
digits_plain [] all k within = absurd (omega arith)
digits_plain (x ∷ xs) all zero within = (grind (arith, common_steps), grind (arith, common_steps))
digits_plain (x ∷ xs) all (suc k) within = digits_plain xs (grind (arith, common_steps)) k (omega arith)

pub plain_word : (word : List ℕ) → 0 < length word → ((k : ℕ) → k < length word → ((get_or word k 0 == 32) ≡ false)
    × (get_or word k 0 < 128))
    → IsPlainWord word
plain_word word some plain = record {
  some = some;
  ascii = IsAscii-from_reads word (length word) (omega arith) (λ k within. (plain k within).1);
  spaceless = All-from_get_or (λ byte. (byte == 32) ≡ false) word 0 (λ k within. (plain k within).0);
}

spelled_digits : (word : List ℕ) (n : ℕ) → small word ≡ Some n → (list_all is_ascii_digit word ≡ true) × (0 < length word)
spelled_digits word n is = (grind (arith, common_steps), grind (arith, common_steps))

pub number_plain : (word : List ℕ) (n : ℕ) → small word ≡ Some n → IsPlainWord word
number_plain word n is =
    let digits = spelled_digits word n is in
    plain_word word digits.1 (digits_plain word digits.0)

-- some bytes that are cut at a space
space_is : (byte : ℕ) → byte ≡ 32 → (byte == 32) ≡ true
space_is byte is = grind (arith, nat_tests)

pub cut_at_space : (bytes : List ℕ) (count : ℕ) → count < length bytes → get_or bytes count 0 ≡ 32
    → bytes ≡ take count bytes ++ 32 ∷ drop (count + 1) bytes
cut_at_space bytes count within is =
    sym (take-append-drop count bytes)
    ∙ ap (λ l. take count bytes ++ l) (drop-cons bytes count 0 within ∙ ap (λ x. x ∷ drop (suc count) bytes) is)
    ∙ ap (λ n. take count bytes ++ 32 ∷ drop n bytes) (sym (add-one count))

-- the words and the characters of bytes that begin with a plain word
first_word : (bytes rest word : List ℕ) → bytes ≡ word ++ 32 ∷ rest → IsPlainWord word → words_of bytes ≡ word ∷ words_of rest
first_word bytes rest word is plain = ap words_of is ∙ slice_split_at (λ byte. byte == 32) word 32 rest plain.spaceless refl

space_ascii : IsAscii (32 ∷ [])
space_ascii = IsAscii-from_reads (32 ∷ []) 1 (omega arith) (λ k below. grind (arith, common_steps))

select_ascii : IsAscii (codes "select ")
select_ascii = search rules

first_ascii : (bytes rest word : List ℕ) → bytes ≡ word ++ 32 ∷ rest → IsPlainWord word → IsAscii rest → IsAscii bytes
first_ascii bytes rest word is plain ascii =
    subst IsAscii (sym is) (IsAscii-append word (32 ∷ rest) plain.ascii (IsAscii-append (32 ∷ []) rest space_ascii ascii))

lone_word : (word : List ℕ) → IsPlainWord word → words_of word ≡ word ∷ []
lone_word word plain = slice_split_none (λ byte. byte == 32) word plain.spaceless

some_length : (word : List ℕ) → 0 < length word → (length word == 0) ≡ false
some_length word some = grind (arith, nat_tests)

-- the four words of a selection
four_words : (group slot key limit : List ℕ) (a b c : ℕ) → small group ≡ Some a → small slot ≡ Some b → small limit ≡ Some c
    → 0 < length key → select_of (group ∷ slot ∷ key ∷ limit ∷ []) ≡ Some (step.select a b key c [])
four_words group slot key limit a b c is_group is_slot is_limit some =
    rw (some_length key some, is_group, is_slot, is_limit) refl

pub read_words : (words r1 r2 limit key : List ℕ) (a b c : ℕ) → BeginsWith words r1 (λ word. small word ≡ Some a)
    → BeginsWith r1 r2 (λ word. small word ≡ Some b) → BeginsWith r2 limit (λ word. IsPlainWord word × (word ≡ key)) → small limit ≡ Some c
    → IsAscii words × (select_of (words_of words) ≡ Some (step.select a b key c []))
read_words words r1 r2 limit key a b c group slot named last =
    let first = number_plain group.word a group.holds in
    let second = number_plain slot.word b slot.holds in
    let fourth = number_plain limit c last in
    let cut : words_of words ≡ group.word ∷ slot.word ∷ named.word ∷ limit ∷ [] =
    first_word words r1 group.word group.is first
    ∙ ap (λ l. group.word ∷ l) (first_word r1 r2 slot.word slot.is second
    ∙ ap (λ l. slot.word ∷ l) (first_word r2 limit named.word named.is named.holds.0
    ∙ ap (λ l. named.word ∷ l) (lone_word limit fourth))) in (
      first_ascii words r1 group.word group.is first
          (first_ascii r1 r2 slot.word slot.is second (first_ascii r2 limit named.word named.is named.holds.0 fourth.ascii)),
      ap select_of cut ∙ four_words group.word slot.word named.word limit a b c group.holds slot.holds last named.holds.0.some
          ∙ ap (λ k. Some (step.select a b k c [])) named.holds.1,
    )

-- the line of such a selection
line_read : (line words : List ℕ) (st : Step Kind) → line ≡ codes "select " ++ words → IsAscii words
    → select_of (words_of words) ≡ Some st → step_of line ≡ Some st
line_read line words st is ascii read =
    let whole : IsAscii (codes "select " ++ words) = IsAscii-append (codes "select ") words select_ascii ascii in
    ap step_of is ∙ rw (is_utf8-from_IsUtf8 (codes "select " ++ words) (IsUtf8-from_ascii (codes "select " ++ words) whole)) read

pub read_line : (r : Option SelectionLine) (line words : List ℕ) → line ≡ codes "select " ++ words
    → IfSome r (λ st. IsAscii words × (select_of (words_of words) ≡ Some (selection_seen st)))
    → IfSome r (λ st. step_of line ≡ Some (selection_seen st))
read_line None line words is read = tt
read_line (Some st) line words is read = line_read line words (selection_seen st) is read.0 read.1

-- `select ` at the front of a line, byte by byte
byte_is : (line : List ℕ) (k byte : ℕ) → k < length line → get_or line k 0 ≡ byte → drop k line ≡ byte ∷ drop (suc k) line
byte_is line k byte within is = drop-cons line k 0 within ∙ ap (λ x. x ∷ drop (suc k) line) is

pub select_front : (line : List ℕ) → 7 ≤ length line → get_or line 0 0 ≡ 115 → get_or line 1 0 ≡ 101 → get_or line 2 0 ≡ 108
    → get_or line 3 0 ≡ 101 → get_or line 4 0 ≡ 99 → get_or line 5 0 ≡ 116 → get_or line 6 0 ≡ 32
    → line ≡ codes "select " ++ take (length line - 7) (drop 7 line)
select_front line long s e l e_again c t space =
    byte_is line 0 115 (omega arith) s
    ∙ ap (λ r. 115 ∷ r) (byte_is line 1 101 (omega arith) e
    ∙ ap (λ r. 101 ∷ r) (byte_is line 2 108 (omega arith) l
    ∙ ap (λ r. 108 ∷ r) (byte_is line 3 101 (omega arith) e_again
    ∙ ap (λ r. 101 ∷ r) (byte_is line 4 99 (omega arith) c
    ∙ ap (λ r. 99 ∷ r) (byte_is line 5 116 (omega arith) t
    ∙ ap (λ r. 116 ∷ r) (byte_is line 6 32 (omega arith) space
    ∙ ap (λ r. 32 ∷ r) (sym (take_all (length line - 7) (drop 7 line) (omega (arith, length-drop 7 line))))))))))

-- the first bytes, each of them plain
pub plain_front : (bytes : List ℕ) (count : ℕ) → 0 < count → count < length bytes
    → ((k : ℕ) → k < count → ((get_or bytes k 0 == 32) ≡ false) × (get_or bytes k 0 < 128)) → IsPlainWord (take count bytes)
plain_front bytes count some within plain =
    plain_word (take count bytes) (omega (arith, length-take count bytes))
    (λ k below.
    let inside : k < count = omega (arith, length-take count bytes) in
    let same : get_or (take count bytes) k 0 ≡ get_or bytes k 0 = grind (arith, common_steps) in
    rw same (plain k inside))

-- what comes after a place, taken whole
pub dropped_all : (bytes : List ℕ) (count : ℕ) → take (length bytes - (count + 1)) (drop (count + 1) bytes) ≡ drop (count + 1) bytes
dropped_all bytes count = take_all (length bytes - (count + 1)) (drop (count + 1) bytes) (omega (arith, length-drop (count + 1) bytes))
