-- Jobs and selectors that are under way, and how long they stay so.
use Rattle.std.specs.Prelude.{◌≡◌, ℕ, true, Some, slice_get}
use Rattle.lb_rebuild_core.specs.SlotsHistory.{Failed, Published, Abandoned, SlotsEvent, At, History, past_of, granted_members}
use Rattle.lb_rebuild_core.specs.Values.{Task}
use Rattle.lb_rebuild_core.specs.Stands.{Made}
use Rattle.lb_rebuild_core.specs.SlotsCalls.{is_awaited}

-- the task is its slot's flight or lost flight, as it went out
pub record IsTaskOf {C : Type 0} (made : Made C) (h : History) (j : Task C) : Type 0 where
  pub awaited : is_awaited j.slot j.generation h ≡ true
  pub config : slice_get made.configs j.slot ≡ Some j.config
  pub members : j.members ≡ granted_members (past_of j.slot h)

-- the event by which a task of that slot comes back
abbrev pub TakesBack : ℕ → SlotsEvent → Type 0
TakesBack k (At i (Failed now ms)) = i ≡ k
TakesBack k (At i (Published ended ms)) = i ≡ k
TakesBack k (At i (Abandoned ms)) = i ≡ k
TakesBack k e = ⊥
