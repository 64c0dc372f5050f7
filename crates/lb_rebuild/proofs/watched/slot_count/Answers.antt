-- The first slot that is not there is as many as there are.
use Rattle.std.proofs.Common.{arith}
use Rattle.lb_rebuild.proofs.Shown.{beyond_slots, slot_serves, few_slots}
use Rattle.lb_rebuild.proofs.watched.slot_count.Goals as goal

pub loop-slot-preserved : goal.loop-slot-preserved
loop-slot-preserved g c = let there = slot_serves c.past.ensures c.served.ensures c.in-Some.is in omega (arith, there.0)

pub returns-in-None : goal.returns-in-None
returns-in-None g c = let past = beyond_slots c.past.ensures c.served.ensures c.in-None.is in omega (arith, past, c.loop-slot.invariant)

pub returns : goal.returns
returns g c = let few = few_slots c.past.ensures in omega (arith, few, c.loop-slot.invariant)
