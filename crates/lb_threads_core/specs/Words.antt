-- What words keep: each has a fact by its place. At a place where no word is, the word is 0.
use Rattle.std.specs.Prelude.{ℕ, List, slice_index}

abbrev pub AreKept : (ℕ → ℕ → Type 0) → List ℕ → Type 0
AreKept holds words = (i : ℕ) → holds i (slice_index words i)
