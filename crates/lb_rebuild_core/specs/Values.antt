-- What contracts see of a group, of its slots, and of the values that leave it.
use Rattle.std.specs.Prelude.{ℕ, Bool, List, map, Option}
use Rattle.lb_select_base.specs.Backends.{Member}
use Rattle.lb_rebuild_core.specs.Gate.{GateId, GroupId}
use Rattle.lb_rebuild_core.specs.SlotsHistory.{Extra}
use Rattle.lb_rebuild_core.specs.declared.answers.Counts.{Counts}
use Rattle.lb_rebuild_core.specs.declared.answers.Timing.{Timing}
use Rattle.lb_rebuild_core.specs.declared.membership.SlotTurn.{SlotTurn}

-- a slot's share of a membership and of its configuration, from which one selector can be built
pub record OrderValue (C : Type 0) : Type 0 where
  pub generation : ℕ
  pub members : List Member
  pub config : C

-- a slot of a group
pub record PlaceValue : Type 0 where
  pub group : GroupId
  pub slot : ℕ

-- an order under way, as a job or in a selector that was built: for which slot of which group, and of which gate its permit is
pub record Task (C : Type 0) : Type 0 where
  pub group : GroupId
  pub slot : ℕ
  pub generation : ℕ
  pub members : List Member
  pub config : C
  pub permit : GateId

-- a selector that was built: its task, and the moment at which the build ended
pub record BuiltValue (C : Type 0) : Type 0 where
  pub task : Task C
  pub ended : ℕ

-- the selector that a slot serves: what it was built of, and its counter of tickets
pub record ServingValue (C : Type 0) : Type 0 where
  pub generation : ℕ
  pub members : List Member
  pub config : C
  pub tickets : ℕ

-- a changed membership of which all that takes memory is at hand: what it finds each slot doing, and each slot's order
pub record PreparedValue (C : Type 0) : Type 0 where
  pub generation : ℕ
  pub members : List Member
  pub turns : List SlotTurn
  pub orders : List (OrderValue C)

-- a selector that was retired and taken out
pub record RetiredValue : Type 0 where
  pub group : GroupId
  pub slot : ℕ
  pub generation : ℕ
  pub permit : GateId

-- the permit of a selector that was taken out of a slot and is destroyed: where it is to be reported, and of which gate it is
pub record PermitValue : Type 0 where
  pub group : GroupId
  pub slot : ℕ
  pub gate : GateId

-- an entry into the selector that a slot of a group served then
pub record ReaderValue (C : Type 0) : Type 0 where
  pub group : GroupId
  pub slot : ℕ
  pub generation : ℕ
  pub members : List Member
  pub config : C

-- A slot: what it serves and to how many readers, what it is configured with, the order that waits, its extra,
-- with the readers left in it and its counter of tickets where it is retired, and with the gate of its permit, and what retries,
-- counts and timing need.
pub record SlotValue (C : Type 0) : Type 0 where
  pub serving : ServingValue C
  pub readers : ℕ
  pub config : C
  pub waiting : Option (OrderValue C)
  pub extra : Extra
  pub left_in : ℕ
  pub left_tickets : ℕ
  pub permit : Option GateId
  pub asked : ℕ
  pub scheduled : ℕ
  pub failures : ℕ
  pub failed_at : ℕ
  pub counts : Counts
  pub timing : Option Timing

-- a group: which one it is, its gate, the newest generation with its members and its moment, whether it is cancelled, and its slots
pub record SlotsValue (C : Type 0) : Type 0 where
  pub id : GroupId
  pub gate : GateId
  pub newest : ℕ
  pub current : List Member
  pub scheduled : ℕ
  pub cancelled : Bool
  pub slots : List (SlotValue C)

-- an order under way, for that place and with that permit
abbrev pub task_of : {C : Type 0} → PlaceValue → OrderValue C → GateId → Task C
task_of p o permit =
    record {
      group = p.group;
      slot = p.slot;
      generation = o.generation;
      members = o.members;
      config = o.config;
      permit = permit;
    }

-- what a job or a built selector was ordered as
abbrev pub order_of : {C : Type 0} → Task C → OrderValue C
order_of j = record { generation = j.generation; members = j.members; config = j.config }

-- the configurations of the slots
abbrev pub configs_of : {C : Type 0} → SlotsValue C → List C
configs_of {C} v = map (λ (x : SlotValue C). x.config) v.slots
