-- What contracts see of a group is a function of its history.
use Rattle.std.specs.Prelude.{◌≡◌, ◌+◌, ◌^◌, ◌<◌, ◌&&◌, ℕ, not, List, [], ◌∷◌, ◌++◌, Option, Some, None, if◌then◌else◌, min}
use Rattle.lb_rebuild_core.specs.Gate.{GateId, GroupId}
use Rattle.lb_rebuild_core.specs.SlotsHistory.{History, Extra, nothing, flight, lost, retired, taken_out, past_of, newest, members_of}
use Rattle.lb_rebuild_core.specs.SlotsHistory.{scheduled_at, is_cancelled, granted, asked_at, served, served_members, order_members, extra}
use Rattle.lb_rebuild_core.specs.SlotsHistory.{is_lost_of, waits, readers, drawn, drawn_retired, published, coalesced, superseded, failed}
use Rattle.lb_rebuild_core.specs.SlotsHistory.{failures, failed_at, timing, IsSlotsHistory}
use Rattle.lb_rebuild_core.specs.Values.{OrderValue, SlotValue, SlotsValue, configs_of}
use Rattle.lb_rebuild_core.specs.declared.answers.Counts.{Counts}

-- what a group was made with: an identity, its gate, and a configuration for each slot
pub record Made (C : Type 0) : Type 0 where
  pub id : GroupId
  pub gate : GateId
  pub configs : List C

-- The order that waits in a slot: one of the newest generation where the slot waits, unless the lost job of that generation
-- has it.
abbrev pub order_due : {C : Type 0} → C → History → Option (OrderValue C)
order_due c h =
    if waits h && not (is_lost_of (newest h) (extra h))
    then Some (record { generation = newest h; members = order_members h; config = c })
    else None

-- the readers that are left in a retired selector
abbrev pub left_readers : Extra → History → ℕ
left_readers nothing h = 0
left_readers (flight n) h = 0
left_readers (lost n) h = 0
left_readers (retired n) h = readers n h
left_readers (taken_out n) h = 0

-- the counter of tickets of a retired selector
abbrev pub left_tickets : Extra → History → ℕ
left_tickets nothing h = 0
left_tickets (flight n) h = 0
left_tickets (lost n) h = 0
left_tickets (retired n) h = drawn_retired h
left_tickets (taken_out n) h = 0

-- what stands in a slot beside what it serves has the permit of the group's gate
abbrev pub permit_in : GateId → Extra → Option GateId
permit_in gate nothing = None
permit_in gate (flight n) = Some gate
permit_in gate (lost n) = Some gate
permit_in gate (retired n) = Some gate
permit_in gate (taken_out n) = Some gate

-- the counts of a slot after its past
abbrev pub counts_after : History → Counts
counts_after h = record { published = published h; coalesced = coalesced h; superseded = superseded h; failed = failed h }

-- a slot after its past
abbrev pub slot_after : {C : Type 0} → GateId → C → History → SlotValue C
slot_after gate c h =
    record {
      serving = record { generation = served h; members = served_members h; config = c; tickets = drawn h };
      readers = readers (served h) h;
      config = c;
      waiting = order_due c h;
      extra = extra h;
      left_in = left_readers (extra h) h;
      left_tickets = left_tickets (extra h) h;
      permit = permit_in gate (extra h);
      asked = asked_at h;
      scheduled = scheduled_at (granted h) h;
      failures = min (failures (newest h) h) 18446744073709551615;
      failed_at = failed_at (newest h) h;
      counts = counts_after h;
      timing = timing h;
    }

-- the slots from the place i on, one for each configuration
abbrev pub slots_after : {C : Type 0} → GateId → ℕ → List C → History → List (SlotValue C)
slots_after gate i [] h = []
slots_after gate i (c ∷ cs) h = slot_after gate c (past_of i h) ∷ slots_after gate (i + 1) cs h

-- a group after its history
abbrev pub group_after : {C : Type 0} → Made C → History → SlotsValue C
group_after made h =
    record {
      id = made.id;
      gate = made.gate;
      newest = newest h;
      current = members_of (newest h) h;
      scheduled = scheduled_at (newest h) h;
      cancelled = is_cancelled h;
      slots = slots_after made.gate 0 made.configs h;
    }

-- the group that contracts see is one that was made so and has had this history
pub record StandsFor {C : Type 0} (made : Made C) (h : History) (v : SlotsValue C) : Type 0 where
  pub possible : IsSlotsHistory h
  pub bounded : newest h < 2 ^ 64
  pub shows : v ≡ group_after made h

-- some history explains the group
abbrev pub IsFounded : {C : Type 0} → SlotsValue C → Type 0
IsFounded {C} v = (made : Made C) × ((h : History) × StandsFor made h v)

-- what holds after each history that explains the group
abbrev pub After : {C : Type 0} → SlotsValue C → (Made C → History → Type 0) → Type 0
After {C} v P = (made : Made C) (h : History) → StandsFor made h v → P made h

-- after each history that explains the first group, the same with these events explains the second one
abbrev pub Becomes : {C : Type 0} → SlotsValue C → History → SlotsValue C → Type 0
Becomes v events w = After v (λ made h. StandsFor made (events ++ h) w)

-- what no call changes: which group it is, its gate, and the configurations of the slots
pub record SameSite {C : Type 0} (v w : SlotsValue C) : Type 0 where
  pub id : w.id ≡ v.id
  pub gate : w.gate ≡ v.gate
  pub configs : configs_of w ≡ configs_of v
