-- What holds of every history of a group that is joined with its view.
use Rattle.std.specs.Prelude.{◌≡◌, ◌⊎◌, ◌<◌, ℕ, true}
use Rattle.lb_rebuild_core.specs.SlotsHistory.{past_of, newest, served, extra, is_extra, generation_of}
use Rattle.lb_health_view.specs.RegistrySide.{lives}
use Rattle.lb_health_view.specs.ViewEvents.{snapshots_after, generation_after, membership_after}
use Rattle.lb_rebuild_core.specs.GroupHistory.{History, slot_events, view_events, members_now}

-- the generation is in use in the slot: it is served there, or it is that of a flight, a lost flight, or a retired selector that
-- is not yet reported destroyed
abbrev pub IsInUse : ℕ → ℕ → History → Type 0
IsInUse slot n e =
    (served (past_of slot (slot_events e)) ≡ n)
    ⊎ ((is_extra (extra (past_of slot (slot_events e))) ≡ true) × (generation_of (extra (past_of slot (slot_events e))) ≡ n))

-- the generation is in use in one of k slots
abbrev pub IsInSomeSlot : ℕ → ℕ → History → Type 0
IsInSomeSlot k n e = (slot : ℕ) × ((slot < k) × IsInUse slot n e)

-- the snapshot of this generation lives in the view of a group of k slots
abbrev pub IsLive : ℕ → ℕ → History → Type 0
IsLive k n e = lives n (snapshots_after (view_events k e)) ≡ true

-- the view is at the group's newest generation and membership
pub record IsShown (k : ℕ) (e : History) : Type 0 where
  pub generation : generation_after (view_events k e) ≡ newest (slot_events e)
  pub members : membership_after (view_events k e) ≡ members_now e
