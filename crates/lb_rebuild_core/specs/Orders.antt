-- Orders of a new membership, from the list of orders to the slots.
use Rattle.std.specs.Prelude.{◌≡◌, ◌<◌, ℕ, List, length, slice_index_or}
use Rattle.lb_select_base.specs.Backends.{Member}
use Rattle.lb_rebuild_core.specs.Values.{OrderValue, SlotValue}
use Rattle.lb_rebuild_core.specs.SlotCalls.{ordered_slot}
use Rattle.lb_rebuild_core.specs.SlotSeen.{slot_value}
use Rattle.lb_rebuild_core.specs.declared.slot.Slot.{Slot}

-- a slot's order for this membership
abbrev pub order_for : {C : Type 0} → ℕ → List Member → SlotValue C → OrderValue C
order_for generation members x = record { generation = generation; members = members; config = x.config }

-- each order waits in the slot of its place; `newest` is the generation before
pub record AreOrdered {S C W : Type 0} (newest : ℕ) (xs : List (Slot S C W)) (os : List (OrderValue C)) (ys : List (Slot S C W))
    : Type 0 where
  pub count : length ys ≡ length xs
  pub each : (k : ℕ) (d : Slot S C W) (o : OrderValue C) → k < length xs
      → slot_value (slice_index_or ys k d) ≡ ordered_slot newest (slice_index_or os k o) (slot_value (slice_index_or xs k d))
