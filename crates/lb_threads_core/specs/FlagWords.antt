-- What words say of the backends of a generation: the word at the place of a backend says which cell it has, whether it is enabled, and
-- whether that was found of the newest membership; or nothing.
use Rattle.std.specs.Prelude.{◌≡◌, ◌%◌, ◌/◌, ℕ, Bool, true, false, List, Option, IfSome, slice_get}
use Rattle.lb_select_base.specs.Backends.{Member}

-- What a word says by its remainder by 8. Of the newest membership it is 7 that a backend is enabled, and 6 that it isn't; else 3 that it
-- is, and 2 that it isn't. The others say nothing.
abbrev pub said_as : Bool → Bool → ℕ
said_as true true = 7
said_as false true = 6
said_as true false = 3
said_as false false = 2

-- what a word says is so; an eighth of it is the number of the cell
abbrev pub Says : (ℕ → Bool → Bool → Type 0) → ℕ → Type 0
Says Told w = (enabled is_newest : Bool) → w % 8 ≡ said_as enabled is_newest → Told (w / 8) enabled is_newest

-- the word at a place speaks of the backend that has the place, and says nothing where none has it
abbrev pub SaysAt : (Member → ℕ → Bool → Bool → Type 0) → List (Option Member) → ℕ → ℕ → Type 0
SaysAt Told marks i w = IfSome (slice_get marks i) (λ o. IfSome o (λ b. Says (Told b) w))
