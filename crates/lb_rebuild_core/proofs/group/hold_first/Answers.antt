-- The loop goes round once for each slot.
use Rattle.std.proofs.Common.{arith}
use Rattle.lb_rebuild_core.proofs.Holds.{first-fits}
use Rattle.lb_rebuild_core.proofs.group.hold_first.Goals as goal

pub hold-requires : goal.hold-requires
hold-requires c = first-fits c.loop.counter c.loop.view c.loop.invariant.0 (omega (arith, c.loop-test.true, c.ranges.slots.fits))
