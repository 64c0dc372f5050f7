-- Lemmas on what a pool's file spells.
use Rattle.std.proofs.Common.{rules, ◌≡◌, ◌≢◌, ◌⊎◌, ℕ, suc, ◌+◌, ◌^◌, ◌<◌, ◌≤◌, ◌==◌, ◌&&◌, Bool, true, false, List, [], ◌∷◌, ◌++◌, Option}
use Rattle.std.proofs.Common.{Some, None, Result, Ok, Err, is_ok, length, nat_lt, slice_index, filter_map, take, drop, get_or, Bor, arith}
use Rattle.std.proofs.Common.{refl, sym, ap, subst, ◌∙◌, append_assoc, length-append, take-append-drop, lit<, inl, inr}
use Rattle.std.specs.Char.{is_ascii_digit}
use Rattle.std.specs.List.{AllByRecursion, cons_option, list_all, position_or_len, before_first, after_first}
use Rattle.std.specs.Result.{result_ok}
use Rattle.std.specs.Str.Parse.{ParsesUnsigned, digits_value}
use Rattle.std.specs.Str.Pattern.{RFindsChar, FindsCharPrefix, SplitsAroundMatch}
use Rattle.std.proofs.lemmas.Bool.{cases_Bool}
use Rattle.std.proofs.lemmas.Bool.Decides.{nat_tests}
use Rattle.std.proofs.lemmas.Grind.{common_steps}
use Rattle.std.proofs.lemmas.List.{append-nil}
use Rattle.std.proofs.lemmas.List.Elements.{All-from_get_or, filter_map-append}
use Rattle.std.proofs.lemmas.List.Splits.{slice_split_none, slice_split_first, length-slice_split}
use Rattle.std.proofs.lemmas.List.Sums.{count_by-le-length, fails_before_first}
use Rattle.std.proofs.lemmas.Str.Parse.{IsDigitsTest, IsNumeralModel, numerals_by_value, parse_digits, parse_plain}
use Rattle.std.proofs.lemmas.Str.Pattern.{NoCharPasses-char, drop_at_char, strip_prefix_char}
use Rattle.lb_select_base.specs.AddressText.{address_refusal}
use Rattle.lb_select_base.specs.Backends.{Address}
use Rattle.lb_select_base.specs.declared.refusal.Refusal.TheVariants.{OutOfMemory}
use Rattle.lb_proxy.specs.declared.pool_file.PoolBackend.{PoolBackend}
use Rattle.lb_proxy.specs.declared.pool_file.PoolCause.{PoolCause}
use Rattle.lb_proxy.specs.PoolFile.{lines_of, lines_left, mark_of, divided, is_number, weight_of, line_of, given, entry_of, IsRight}
use Rattle.lb_proxy.specs.PoolFile.{IsFirstWrong}

-- a text with no line feed is one line
pub one_line : (text : List ℕ) → position_or_len (λ byte. byte == 10) text ≡ length text → lines_of text ≡ text ∷ []
one_line text none =
    slice_split_none (λ byte. byte == 10) text
    (All-from_get_or (λ byte. (byte == 10) ≡ false) text 0
    (λ k within. fails_before_first (λ byte. byte == 10) text k 0 (subst (λ n. k < n) (sym none) within)))

-- a text is cut at its first line feed
pub first_line : (text line rest : List ℕ) → position_or_len (λ byte. byte == 10) text < length text
    → line ≡ before_first (λ byte. byte == 10) text → rest ≡ after_first (λ byte. byte == 10) text → lines_of text ≡ line ∷ lines_of rest
first_line text line rest within front back = slice_split_first (λ byte. byte == 10) text 0 within ∙ rw (← front, ← back) refl

slash_not : (x : ℕ) → x ≢ 47 → (x == 47) ≡ false
slash_not x other = grind (arith, nat_tests)

-- a word with no slash is not divided
divided_none : (word : List ℕ) → ((i : ℕ) → i < length word → get_or word i 0 ≢ 47) → divided word ≡ None
divided_none [] none_there = refl
divided_none (x ∷ xs) none_there =
    let rest : divided xs ≡ None = divided_none xs (λ i h. none_there (suc i) (omega arith)) in
    let other : (x == 47) ≡ false = slash_not x (none_there 0 (omega arith)) in
    rw (rest, other) refl

-- a word is divided at its last slash
divided_at : (address digits : List ℕ) → ((i : ℕ) → i < length digits → get_or digits i 0 ≢ 47)
    → divided (address ++ 47 ∷ digits) ≡ Some (address, digits)
divided_at [] digits none_there = rw (divided_none digits none_there) refl
divided_at (x ∷ xs) digits none_there = rw (divided_at xs digits none_there) refl

-- what the library's `rsplit_once` says of a slash
pub divided_missing : (word : List ℕ) → RFindsChar 47 word None → divided word ≡ None
divided_missing word none = divided_none word (λ i within. NoCharPasses-char 47 word i none (lit< tt) within)

pub divided_found : (word address digits : List ℕ) → SplitsAroundMatch (RFindsChar 47) word address digits
    → divided word ≡ Some (address, digits)
divided_found word address digits h =
    let i = h.0 in
    let j = h.1 in
    let cut : drop i word ≡ 47 ∷ drop j word = drop_at_char 47 word i j h.2.1 (lit< tt) in
    let after : (k : ℕ) → k < length (drop j word) → get_or (drop j word) k 0 ≢ 47 =
    λ k within. NoCharPasses-char 47 (drop j word) k h.2.0 (lit< tt) within in
    let is : word ≡ address ++ 47 ∷ digits =
    sym (take-append-drop i word) ∙ ap (λ l. take i word ++ l) cut ∙ ap (λ l. take i word ++ 47 ∷ l) (sym h.4)
    ∙ ap (λ l. l ++ 47 ∷ digits) (sym h.3) in
    ap divided is ∙ divided_at address digits (subst (λ (l : List ℕ). (k : ℕ) → k < length l → get_or l k 0 ≢ 47) (sym h.4) after)

mark_not : (x : ℕ) → x ≢ 33 → (x == 33) ≡ false
mark_not x other = grind (arith, nat_tests)

-- what the library's `strip_prefix` says of a content without the mark
pub unmarked : (content : List ℕ) → FindsCharPrefix 33 content None → (true, content) ≡ mark_of content
unmarked [] none = refl
unmarked (x ∷ xs) none =
    let other : (x == 33) ≡ false = mark_not x (λ e. strip_prefix_char 33 (x ∷ xs) None none (lit< tt) xs (ap (λ y. y ∷ xs) e)) in
    rw other refl

digits_test : IsDigitsTest (λ word. list_all is_ascii_digit word ≡ true)
digits_test = search rules

digits_model : IsNumeralModel (λ word. list_all is_ascii_digit word ≡ true) (digits_value 10)
digits_model = numerals_by_value (λ word. list_all is_ascii_digit word ≡ true) digits_test

-- a number has a digit and digits alone
has_digit : (word : List ℕ) → is_number word ≡ true → (list_all is_ascii_digit word ≡ true) × (0 < length word)
has_digit word is = (grind (arith, common_steps), grind (arith, common_steps))

are_digits : (word : List ℕ) → 0 < length word → list_all is_ascii_digit word ≡ true → is_number word ≡ true
are_digits word some digits = grind (arith, common_steps)

fits_test : (n bound : ℕ) → n < bound → nat_lt n bound ≡ true
fits_test n bound less = grind (arith, nat_tests)

large_test : (n bound : ℕ) → (n < bound → ⊥) → nat_lt n bound ≡ false
large_test n bound large = grind (arith, nat_tests)

too_large : {E : Type 0} (word : List ℕ) (e : E) → ParsesUnsigned {E = E} 64 10 word (Err e) → is_number word ≡ true → None ≡ weight_of word
too_large {E = E} word e h is =
    let some = has_digit word is in
    let d = parse_digits digits_model {E = E} 64 word (Err e) h some.0 in
    rw (is, large_test (digits_value 10 word) (2 ^ 64) (λ less. d (some.1, less))) refl

plus_is : (x : ℕ) → (x == 43) ≡ true → x ≡ 43
plus_is x is = grind (arith, nat_tests)

plus_not : (x : ℕ) → (x == 43) ≡ false → x ≢ 43
plus_not x other = grind (arith, nat_tests)

-- what the library's `parse` gives for a word without a plus in front
pub parsed_weight : {E : Type 0} (word : List ℕ) (r : Result ℕ E) → ParsesUnsigned 64 10 word r → (slice_index word 0 == 43) ≡ false
    → result_ok r ≡ weight_of word
parsed_weight {E = E} word (Ok x) h plain =
    let d = parse_plain digits_model {E = E} 64 word (Ok x) h (plus_not (slice_index word 0) plain) in
    rw (are_digits word d.0.1 d.0.0, fits_test (digits_value 10 word) (2 ^ 64) d.0.2) (ap Some d.1)
parsed_weight {E = E} word (Err e) h plain =
    elim (cases_Bool (is_number word)) [ inl is ↦ too_large {E = E} word e h is | inr other ↦ rw other refl ]

and_false : (b : Bool) → (b && false) ≡ false
and_false true = refl
and_false false = refl

-- a word with a plus in front is no number
pub signed_weight : (word : List ℕ) → (slice_index word 0 == 43) ≡ true → None ≡ weight_of word
signed_weight [] is = refl
signed_weight (x ∷ xs) is =
    subst (λ y. None ≡ weight_of (y ∷ xs)) (sym (plus_is x is)) (rw (and_false (nat_lt 0 (length (43 ∷ xs)))) refl)

-- where the want of memory is no fault of the address, the text spells one
pub memory_address : (found : Option Address)
    → (address_refusal found ≡ Some OutOfMemory) ⊎ ((address_refusal found ≡ None) × (OutOfMemory ≡ OutOfMemory))
    → (address : Address) × (found ≡ Some address)
memory_address None h = elim h [ inl e ↦ cc | inr p ↦ cc ]
memory_address (Some address) h = (address, refl)

-- the lines that are read, of which there is this number and which give these backends, and the lines that are left
pub record IsRead (lines : List (List ℕ)) (number : ℕ) (backends : List PoolBackend) (left : List (List ℕ)) : Type 0 where
  pub done : List (List ℕ)
  pub split : lines ≡ done ++ left
  pub right : AllByRecursion IsRight done
  pub count : number ≡ length done
  pub found : backends ≡ filter_map entry_of done

pub read_nothing : (lines : List (List ℕ)) → IsRead lines 0 [] lines
read_nothing lines = record { done = []; split = refl; right = tt; count = refl; found = refl }

-- what is left begins with this line
pub next_line : (lines : List (List ℕ)) (n : ℕ) (backends : List PoolBackend) (rest : Option (Bor (List ℕ))) (unread : Bor (List ℕ))
    (line : List ℕ) (left : List (List ℕ)) → IsRead lines n backends (lines_left rest) → rest ≡ Some unread
    → lines_of unread.now ≡ line ∷ left → IsRead lines n backends (line ∷ left)
next_line lines n backends rest unread line left read is cut = subst (IsRead lines n backends) (ap lines_left is ∙ cut) read

right_more : (done : List (List ℕ)) (line : List ℕ) → AllByRecursion IsRight done → IsRight line
    → AllByRecursion IsRight (done ++ line ∷ [])
right_more [] line right this = (this, tt)
right_more (x ∷ xs) line right this = (right.0, right_more xs line right.1 this)

found_more : (done : List (List ℕ)) (line : List ℕ) (b : Option PoolBackend) → line_of line ≡ Ok b
    → filter_map entry_of (done ++ line ∷ []) ≡ filter_map entry_of done ++ cons_option b []
found_more done line b is =
    filter_map-append entry_of done (line ∷ []) ∙ ap (λ r. filter_map entry_of done ++ cons_option (given r) []) is

-- one more line is read, which is right
pub read_more : (lines : List (List ℕ)) (n : ℕ) (backends : List PoolBackend) (line : List ℕ) (left : List (List ℕ))
    (b : Option PoolBackend)
    → IsRead lines n backends (line ∷ left) → line_of line ≡ Ok b → IsRead lines (n + 1) (backends ++ cons_option b []) left
read_more lines n backends line left b read is = record {
  done = read.done ++ line ∷ [];
  split = rw append_assoc read.split;
  right = right_more read.done line read.right (ap is_ok is);
  count = omega (arith, read.count, length-append read.done (line ∷ []));
  found = ap (λ l. l ++ cons_option b []) read.found ∙ sym (found_more read.done line b is);
}

-- one more line is read, which gives nothing
pub read_blank : (lines : List (List ℕ)) (n : ℕ) (backends : List PoolBackend) (line : List ℕ) (left : List (List ℕ))
    → IsRead lines n backends (line ∷ left) → line_of line ≡ Ok None → IsRead lines (n + 1) backends left
read_blank lines n backends line left read is =
    subst (λ l. IsRead lines (n + 1) l left) (append-nil backends) (read_more lines n backends line left None read is)

-- the next line is the first that is wrong
pub read_wrong : (lines : List (List ℕ)) (n : ℕ) (backends : List PoolBackend) (line : List ℕ) (left : List (List ℕ)) (cause : PoolCause)
    → IsRead lines n backends (line ∷ left) → line_of line ≡ Err cause → IsFirstWrong lines (record { line = n + 1; cause = cause })
read_wrong lines n backends line left cause read is = record {
  before = read.done;
  wrong = line;
  after = left;
  split = read.split;
  right = read.right;
  number = omega (arith, read.count);
  cause = is;
}

not_empty : (xs ys : List PoolBackend) (b : PoolBackend) → xs ++ b ∷ ys ≢ []
not_empty [] ys b is = cc
not_empty (x ∷ xs) ys b is = cc

-- the next line gives a backend
pub read_some : (lines : List (List ℕ)) (n : ℕ) (backends : List PoolBackend) (line : List ℕ) (left : List (List ℕ)) (b : PoolBackend)
    → IsRead lines n backends (line ∷ left) → line_of line ≡ Ok (Some b) → filter_map entry_of lines ≢ []
read_some lines n backends line left b read is none =
    not_empty (filter_map entry_of read.done) (filter_map entry_of left) b
    (ap (λ r. filter_map entry_of read.done ++ cons_option (given r) (filter_map entry_of left)) (sym is)
    ∙ sym (filter_map-append entry_of read.done (line ∷ left)) ∙ ap (filter_map entry_of) (sym read.split) ∙ none)

-- all lines are read
pub read_all : (lines : List (List ℕ)) (n : ℕ) (backends : List PoolBackend) → IsRead lines n backends []
    → (backends ≡ filter_map entry_of lines) × AllByRecursion IsRight lines
read_all lines n backends read =
    let is : read.done ≡ lines = sym (read.split ∙ append-nil read.done) in
    (read.found ∙ ap (filter_map entry_of) is, subst (λ l. AllByRecursion IsRight l) is read.right)

-- a text has no more lines than bytes, and one
pub read_bound : (text : List ℕ) (n : ℕ) (backends : List PoolBackend) (left : List (List ℕ)) → IsRead (lines_of text) n backends left
    → n + length left ≤ length text + 1
read_bound text n backends left read =
    omega (
      arith,
      read.count,
      length-append read.done left,
      ap length read.split,
      length-slice_split (λ byte. byte == 10) text,
      count_by-le-length (λ byte. byte == 10) text,
    )
