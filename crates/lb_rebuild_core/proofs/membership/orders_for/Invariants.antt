use Rattle.std.proofs.Common.{◌≡◌, map, take}
use Rattle.std.specs.Arc.{arc_value}
use Rattle.lb_rebuild_core.specs.Orders.{order_for}
use Rattle.lb_rebuild_core.specs.SlotSeen.{slot_value}
use Rattle.lb_rebuild_core.proofs.membership.orders_for.Given as goal

abbrev pub invariant-loop-slot : goal.invariant-loop-slot
invariant-loop-slot g l = l.orders.items ≡ map (λ x. order_for l.generation (arc_value l.members).keys (slot_value x))
    (take l.slot-index l.slots)
