-- What contracts see of a group that threads share, whose generations are read on its board.
use Rattle.std.specs.Prelude.{◌≡◌, ◌⊎◌, ◌≤◌, ◌<◌, ◌+◌, ℕ, Bool, List, Option, Result}
use Rattle.lb_rebuild.specs.Pass.{BoardId}
use Rattle.lb_rebuild_core.specs.GroupStates.{GroupValue, SameSite}
use Rattle.lb_health_core.specs.Registry.{RegistryValue}
use Rattle.lb_select_base.specs.Backends.{Member, same_member}
use Rattle.lb_select_base.specs.Draws.{Draw}
use Rattle.lb_select_base.specs.Selections.{Selects}
use Rattle.lb_select_base.specs.declared.refusal.Refusal.{Refusal}
use Rattle.lb_select_base.specs.declared.refusal.Refusal.TheVariants as refusal
use Rattle.lb_rebuild.specs.Watched.{WatchedValue}

-- the board; the group as it was when it came under its lock, of which stays which one it is, its gate and its configurations; and the
-- registry as it was when it came under its own, whose history others lengthen
pub record SharedValue (C R : Type 0) : Type 0 where
  pub board : BoardId
  pub core : GroupValue C
  pub registry : RegistryValue R

-- what lies under the lock is the group that it was made with, on the same board
pub record IsSame {C : Type 0} (v w : WatchedValue C) : Type 0 where
  pub board : w.board ≡ v.board
  pub site : SameSite v.core w.core

-- why an entry is refused: no such slot is there; or it is there, and its readers are at their most, or memory was refused
abbrev pub IsEntryRefusal : BoardId → ℕ → Refusal → Type 0
IsEntryRefusal board slot e =
    ((board.words ≤ slot + 1) × (e ≡ refusal.NoSuch))
    ⊎ ((slot + 1 < board.words) × ((e ≡ refusal.NumbersExhausted) ⊎ (e ≡ refusal.OutOfMemory)))

-- A selection by the words that it drew, whichever they were: others draw from the same source.
abbrev pub SelectsByAny : (Member → Bool → Type 0) → ℕ → (List Draw → List Member → Bool → Type 0) → Result (Option Member) Refusal → Type 0
SelectsByAny accepts limit walks r = Selects {S = Unit {0}} same_member accepts limit (λ s d t. Unit {0}) walks tt r tt
