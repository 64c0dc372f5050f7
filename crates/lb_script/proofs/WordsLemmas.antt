-- Lemmas on the words of a line.
use Rattle.std.proofs.Common.{◌≡◌, ℕ, ◌+◌, ◌<◌, ◌==◌, true, false, List, [], ◌∷◌, Option, Some, length, take, drop, arith, add-one, sym, ap}
use Rattle.std.proofs.Common.{subst, ◌∙◌, get_or, Bor}
use Rattle.std.specs.List.{position_or_len}
use Rattle.std.specs.Str.{IsUtf8, IsCharBoundary}
use Rattle.std.proofs.lemmas.Bool.Decides.{nat_tests}
use Rattle.std.proofs.lemmas.List.Elements.{All-from_get_or}
use Rattle.std.proofs.lemmas.List.Splits.{slice_split_none, slice_split_first}
use Rattle.std.proofs.lemmas.List.Sums.{fails_before_first, passes_at_first}
use Rattle.std.proofs.lemmas.Str.{IsCharBoundary-after_ascii}
use Rattle.lb_script.specs.Words.{words_of, words_left}

-- the place of a line's first space; its length where there is none
abbrev pub space_place : List ℕ → ℕ
space_place line = position_or_len (λ byte. byte == 32) line

-- a line that is cut at its first space: the word before it, and then the words after it
pub words_cut : (line : List ℕ) (place : ℕ) → place < length line → space_place line ≡ place
    → words_of line ≡ take place line ∷ words_of (drop (place + 1) line)
words_cut line place within first =
    slice_split_first (λ byte. byte == 32) line 0 (subst (λ n. n < length line) (sym first) within)
    ∙ rw (first, add-one place)

-- a line with no space is one word
pub words_whole : (line : List ℕ) → space_place line ≡ length line → words_of line ≡ line ∷ []
words_whole line none =
    slice_split_none (λ byte. byte == 32) line
    (All-from_get_or (λ byte. (byte == 32) ≡ false) line 0
    (λ k within. fails_before_first (λ byte. byte == 32) line k 0 (subst (λ n. k < n) (sym none) within)))

space_is : (byte : ℕ) → (byte == 32) ≡ true → byte < 128
space_is byte is = grind (arith, nat_tests)

-- a text may be cut after a space
pub after_space : (line : List ℕ) (place : ℕ) → IsUtf8 line → place < length line → space_place line ≡ place
    → IsCharBoundary line (place + 1)
after_space line place text within first =
    let is : (get_or line place 0 == 32) ≡ true =
    subst (λ n. (get_or line n 0 == 32) ≡ true) first
    (passes_at_first (λ byte. byte == 32) line 0 (subst (λ n. n < length line) (sym first) within)) in
    IsCharBoundary-after_ascii line place text within (space_is (get_or line place 0) is)

-- what is left of a line, seen as its words
pub words_seen : (rest : Option (Bor (List ℕ))) (line : Bor (List ℕ)) (seen : List (List ℕ)) → words_left rest ≡ seen
    → rest ≡ Some line → seen ≡ words_of line.now
words_seen rest line seen view is = sym view ∙ ap words_left is
