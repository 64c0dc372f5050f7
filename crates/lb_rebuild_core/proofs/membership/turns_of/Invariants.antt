use Rattle.std.proofs.Common.{◌≡◌, map, take}
use Rattle.lb_rebuild_core.specs.Internal.Fresh.{turn_of}
use Rattle.lb_rebuild_core.specs.SlotSeen.{slot_value}
use Rattle.lb_rebuild_core.proofs.membership.turns_of.Given as goal

abbrev pub invariant-loop-slot : goal.invariant-loop-slot
invariant-loop-slot g l = l.turns.items ≡ map (λ x. turn_of l.newest (slot_value x)) (take l.slot-index l.slots)
