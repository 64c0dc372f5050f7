-- One order more goes to its slot.
use Rattle.std.proofs.Common.{arith}
use Rattle.lb_rebuild_core.proofs.Handing.{hands_first, hands_on, hands_last}
use Rattle.lb_rebuild_core.proofs.membership.hand_out.Goals as goal

pub loop-order-init : goal.loop-order-init
loop-order-init g c = hands_first _ _ _ c.requires

pub loop-order-preserved : goal.loop-order-preserved
loop-order-preserved g c =
    let taken = rw c.in-Some.is at c.pop.ensures.items in
    hands_on _ _ _ _ c.pop.new.self.items _ c.len-slot.result c.in-Some.order c.index_mut.result.now c.order.new.self c.loop-order.invariant
    taken (omega (arith, c.len-slot.ensures, c.pop.new.self.ok.0)) c.index_mut.ensures.value c.order.ensures

pub returns : goal.returns
returns g c =
    let none = rw c.in_default.is at c.pop.ensures.cases in
    hands_last _ _ _ _ _ c.loop-order.invariant (omega (arith, none.0, c.loop-order.orders.ok.0))
