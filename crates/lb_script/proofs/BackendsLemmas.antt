-- Lemmas on backends as a script spells them.
use Rattle.std.proofs.Common.{◌≡◌, ◌≢◌, ℕ, suc, ◌<◌, ◌==◌, false, List, [], ◌∷◌, ◌++◌, None, Some, length, take, drop, get_or, arith, refl}
use Rattle.std.proofs.Common.{sym, ap, subst, ◌∙◌, take-append-drop, lit<}
use Rattle.std.specs.Str.Pattern.{RFindsChar, FindsCharPrefix, SplitsAroundMatch}
use Rattle.std.proofs.lemmas.Bool.Decides.{nat_tests}
use Rattle.std.proofs.lemmas.Str.Pattern.{NoCharPasses-char, drop_at_char, strip_prefix_char}
use Rattle.lb_script.specs.StepLines.{address_and_weight, mark_of}

slash_not : (x : ℕ) → x ≢ 47 → (x == 47) ≡ false
slash_not x other = grind (arith, nat_tests)

-- a word with no slash is not divided
divided_none : (word : List ℕ) → ((i : ℕ) → i < length word → get_or word i 0 ≢ 47) → address_and_weight word ≡ None
divided_none [] none_there = refl
divided_none (x ∷ xs) none_there =
    let rest : address_and_weight xs ≡ None = divided_none xs (λ i h. none_there (suc i) (omega arith)) in
    let other : (x == 47) ≡ false = slash_not x (none_there 0 (omega arith)) in
    rw (rest, other) refl

-- a word is divided at its last slash
divided_at : (address weight : List ℕ) → ((i : ℕ) → i < length weight → get_or weight i 0 ≢ 47)
    → address_and_weight (address ++ 47 ∷ weight) ≡ Some (address, weight)
divided_at [] weight none_there = rw (divided_none weight none_there) refl
divided_at (x ∷ xs) weight none_there = rw (divided_at xs weight none_there) refl

-- what the library's `rsplit_once` says of a slash
pub divided_missing : (word : List ℕ) → RFindsChar 47 word None → address_and_weight word ≡ None
divided_missing word none = divided_none word (λ i within. NoCharPasses-char 47 word i none (lit< tt) within)

pub divided_found : (word address weight : List ℕ) → SplitsAroundMatch (RFindsChar 47) word address weight
    → address_and_weight word ≡ Some (address, weight)
divided_found word address weight h =
    let i = h.0 in
    let j = h.1 in
    let cut : drop i word ≡ 47 ∷ drop j word = drop_at_char 47 word i j h.2.1 (lit< tt) in
    let after : (k : ℕ) → k < length (drop j word) → get_or (drop j word) k 0 ≢ 47 =
    λ k within. NoCharPasses-char 47 (drop j word) k h.2.0 (lit< tt) within in
    let is : word ≡ address ++ 47 ∷ weight =
    sym (take-append-drop i word) ∙ ap (λ l. take i word ++ l) cut ∙ ap (λ l. take i word ++ 47 ∷ l) (sym h.4)
    ∙ ap (λ l. l ++ 47 ∷ weight) (sym h.3) in
    ap address_and_weight is
    ∙ divided_at address weight (subst (λ (l : List ℕ). (k : ℕ) → k < length l → get_or l k 0 ≢ 47) (sym h.4) after)

is_other : (x y : ℕ) → x ≢ y → (x == y) ≡ false
is_other x y other = grind (arith, nat_tests)

-- what the library's `strip_prefix` says of a word with neither mark
pub unmarked : (word : List ℕ) → FindsCharPrefix 33 word None → FindsCharPrefix 43 word None → (None, word) ≡ mark_of word
unmarked [] no_disable no_enable = refl
unmarked (x ∷ xs) no_disable no_enable =
    let first : (x == 33) ≡ false = is_other x 33 (λ e. strip_prefix_char 33 (x ∷ xs) None no_disable (lit< tt) xs (ap (λ y. y ∷ xs) e)) in
    let second : (x == 43) ≡ false = is_other x 43 (λ e. strip_prefix_char 43 (x ∷ xs) None no_enable (lit< tt) xs (ap (λ y. y ∷ xs) e)) in
    rw (first, second) refl
