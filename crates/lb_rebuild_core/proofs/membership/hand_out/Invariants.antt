use Rattle.std.proofs.Common.{vec_len}
use Rattle.lb_rebuild_core.proofs.Handing.{HandsOut}
use Rattle.lb_rebuild_core.proofs.membership.hand_out.Given as goal

abbrev pub invariant-loop-order : goal.invariant-loop-order
invariant-loop-order g l = HandsOut l.fn.newest l.fn.slots.items l.fn.orders.items l.orders.items l.slots.items

abbrev pub decreases-loop-order : goal.decreases-loop-order
decreases-loop-order g l = vec_len l.orders
