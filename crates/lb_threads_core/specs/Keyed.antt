-- What the table of a lock keeps: a free lock has its value at home.
use Rattle.std.specs.Prelude.{◌≡◌, ℕ, List, [], ◌∷◌, Option, Some, slice_index}
use mathlib.Core.Option as maybe
use Rattle.atomic_table.specs.Table.{Me}

-- the lock has one word, and where it is 0 the one place has a value that keeps the fact
pub record FreeIsHome {T : Type 0} (holds : T → Type 0) (words : List ℕ) (homes : List (maybe.Option (Option T))) : Type 0 where
  pub one : words ≡ slice_index words 0 ∷ []
  pub free : slice_index words 0 ≡ 0 → (value : T) × (homes ≡ maybe.some (Some value) ∷ []) × holds value

-- the thread that found 0 has taken the value, which keeps the fact
abbrev pub Took : {T K : Type 0} → (T → Type 0) → ℕ → Me (Option T) K → Type 0
Took {T} holds n w = n ≡ 0 → (value : T) × (w.1 ≡ (0, Some value) ∷ []) × holds value
