-- The slot is put back in its place.
use Rattle.std.proofs.Common.{arith, refl}
use Rattle.lb_rebuild_core.proofs.SlotsSteps.{facing, beyond, stays, site-of}
use Rattle.lb_rebuild_core.proofs.CallSteps.{loses}
use Rattle.lb_rebuild_core.proofs.slots.Slots.worker_lost.Goals as goal

pub returns-then-slot-len-clause-answers : goal.returns-then-slot-len-clause-answers
returns-then-slot-len-clause-answers g c made h s =
    rw (beyond _ c.args.slot c.self.view_is (omega arith) s) refl

pub invariant_of-self : goal.invariant_of-self
invariant_of-self g c =
    stays c.self.invariant c.self.view_is (λ made h s.
    (loses (facing c.args.slot c.index_mut.result.now c.lose.new.self c.self.view_is (omega arith) c.index_mut.ensures.value s)
    c.lose.result c.lose.ensures).1)

pub returns-clause-answers : goal.returns-clause-answers
returns-clause-answers g c made h s =
    (loses (facing c.args.slot c.index_mut.result.now c.lose.new.self c.self.view_is (omega arith) c.index_mut.ensures.value s)
    c.lose.result c.lose.ensures).0

pub returns-clause-stands : goal.returns-clause-stands
returns-clause-stands g c made h s =
    (loses (facing c.args.slot c.index_mut.result.now c.lose.new.self c.self.view_is (omega arith) c.index_mut.ensures.value s)
    c.lose.result c.lose.ensures).1

pub returns-clause-site : goal.returns-clause-site
returns-clause-site g c = site-of c.self.invariant c.self.view_is (returns-clause-stands g c)
