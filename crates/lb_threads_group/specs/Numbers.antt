-- What is known of a number of a group that was read without its lock: it was so at some state of the group.
use Rattle.std.specs.Prelude.{◌≡◌, ◌+◌, ◌*◌, ℕ, Option, Some}
use Rattle.lb_rebuild_core.specs.SlotsCalls.{at_slot}
use Rattle.lb_rebuild_core.specs.SlotsHistory.{History, past_of, newest, served, coalesced, failed}
use Rattle.lb_rebuild_core.specs.GroupHistory.{slot_events}
use Rattle.lb_rebuild_core.specs.GroupStates.{GroupValue, After}
use Rattle.lb_threads_group.specs.Group.{Seen}

module _ {C : Type 0} where
  -- the newest generation
  abbrev pub SawNewest : GroupValue C → ℕ → Type 0
  SawNewest site n = Seen site (λ v. After v (λ made e. n ≡ newest (slot_events e)))

  -- a number of a slot's past, or none where no such slot is there
  abbrev pub SawOfSlot : (History → ℕ) → GroupValue C → ℕ → Option ℕ → Type 0
  SawOfSlot number site slot r = Seen site (λ v. After v (λ made e. r ≡ at_slot made slot (number (past_of slot (slot_events e)))))

  -- What the number at a place says: the newest generation at the first, and then of each slot the generation that it serves, how many of
  -- its memberships were coalesced, and how many of its builds failed.
  pub record IsNumber (site : GroupValue C) (place n : ℕ) : Type 0 where
    pub newest : place ≡ 0 → SawNewest site n
    pub served : (slot : ℕ) → place ≡ 3 * slot + 1 → SawOfSlot served site slot (Some n)
    pub coalesced : (slot : ℕ) → place ≡ 3 * slot + 2 → SawOfSlot coalesced site slot (Some n)
    pub failed : (slot : ℕ) → place ≡ 3 * slot + 3 → SawOfSlot failed site slot (Some n)
