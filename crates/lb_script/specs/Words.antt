-- The words of a line: the parts between its spaces. A line that begins or ends with a space, or has two in a row,
-- has an empty word there; the empty line has just one word, an empty one.
use Rattle.std.specs.Prelude.{◌≡◌, ◌<◌, ℕ, List, [], ◌∷◌, ◌++◌, Option, None, Some, ◌==◌, false, length}
use Rattle.std.specs.Borrow.{Bor}
use Rattle.std.specs.List.{All, slice_split}
use Rattle.std.specs.Str.{IsAscii}

abbrev pub words_of : List ℕ → List (List ℕ)
words_of line = slice_split (λ byte. byte == 32) line

-- the words of what is left of a line, if anything is
abbrev pub words_left : Option (Bor (List ℕ)) → List (List ℕ)
words_left None = []
words_left (Some rest) = words_of rest.now

-- some bytes are a word of which P holds, a space and the rest
pub record BeginsWith (bytes rest : List ℕ) (P : List ℕ → Type 0) : Type 0 where
  pub word : List ℕ
  pub is : bytes ≡ word ++ 32 ∷ rest
  pub holds : P word

-- a byte or more, each ASCII and no space
pub record IsPlainWord (word : List ℕ) : Type 0 where
  pub some : 0 < length word
  pub ascii : IsAscii word
  pub spaceless : All (λ byte. (byte == 32) ≡ false) word
