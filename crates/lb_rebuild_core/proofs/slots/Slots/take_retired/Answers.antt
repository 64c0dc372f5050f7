-- The slot is put back in its place.
use Rattle.std.proofs.Common.{arith, refl}
use Rattle.lb_rebuild_core.proofs.SlotsSteps.{facing, beyond, known, stays, place-made, site-of}
use Rattle.lb_rebuild_core.proofs.CallSteps.{takes, taken-own}
use Rattle.lb_rebuild_core.proofs.slots.Slots.take_retired.Goals as goal

pub returns-then-slot-len-clause-answers : goal.returns-then-slot-len-clause-answers
returns-then-slot-len-clause-answers g c made h s =
    rw (beyond _ c.args.slot c.self.view_is (omega arith) s) refl

pub invariant_of-self : goal.invariant_of-self
invariant_of-self g c =
    stays c.self.invariant c.self.view_is (λ made h s.
    (takes (facing c.args.slot c.index_mut.result.now c.take_retired.new.self c.self.view_is (omega arith) c.index_mut.ensures.value s)
    c.place-place.result c.take_retired.result (place-made c.place-place.ensures s) c.take_retired.ensures).1)

pub returns-clause-answers : goal.returns-clause-answers
returns-clause-answers g c made h s =
    (takes (facing c.args.slot c.index_mut.result.now c.take_retired.new.self c.self.view_is (omega arith) c.index_mut.ensures.value s)
    c.place-place.result c.take_retired.result (place-made c.place-place.ensures s) c.take_retired.ensures).0

pub returns-clause-stands : goal.returns-clause-stands
returns-clause-stands g c made h s =
    (takes (facing c.args.slot c.index_mut.result.now c.take_retired.new.self c.self.view_is (omega arith) c.index_mut.ensures.value s)
    c.place-place.result c.take_retired.result (place-made c.place-place.ensures s) c.take_retired.ensures).1

pub returns-clause-site : goal.returns-clause-site
returns-clause-site g c = site-of c.self.invariant c.self.view_is (returns-clause-stands g c)

pub returns-clause-own : goal.returns-clause-own
returns-clause-own g c =
    known c.self.invariant c.self.view_is (λ made h s.
    taken-own made h _ c.args.slot c.take_retired.result _ (returns-clause-stands g c made h s) (returns-clause-answers g c made h s))
