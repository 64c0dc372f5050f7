use Rattle.std.proofs.Common.{◌≤◌, length}
use Rattle.lb_rebuild.proofs.watched.slot_count.Given as goal

abbrev pub invariant-loop-slot : goal.invariant-loop-slot
invariant-loop-slot g l = l.slot ≤ length l.core.group.slots
