-- The slot is put back in its place.
use Rattle.std.proofs.Common.{arith, refl, inl}
use Rattle.lb_rebuild_core.proofs.SlotsSteps.{facing, beyond, known, stays, place-made, site-of}
use Rattle.lb_rebuild_core.proofs.CallSteps.{enters, entered-own}
use Rattle.lb_rebuild_core.proofs.slots.Slots.enter.Goals as goal

pub returns-then-slot-len-clause-answers : goal.returns-then-slot-len-clause-answers
returns-then-slot-len-clause-answers g c made h s =
    inl (rw (beyond _ c.args.slot c.self.view_is (omega arith) s) refl)

pub invariant_of-self : goal.invariant_of-self
invariant_of-self g c =
    stays c.self.invariant c.self.view_is (λ made h s.
    (enters (facing c.args.slot c.index_mut.result.now c.enter.new.self c.self.view_is (omega arith) c.index_mut.ensures.value s)
    c.place-place.result c.enter.result (place-made c.place-place.ensures s) c.enter.ensures.ok c.enter.ensures.err
    c.enter.ensures.same).1)

pub returns-clause-answers : goal.returns-clause-answers
returns-clause-answers g c made h s =
    (enters (facing c.args.slot c.index_mut.result.now c.enter.new.self c.self.view_is (omega arith) c.index_mut.ensures.value s)
    c.place-place.result c.enter.result (place-made c.place-place.ensures s) c.enter.ensures.ok c.enter.ensures.err
    c.enter.ensures.same).0

pub returns-clause-stands : goal.returns-clause-stands
returns-clause-stands g c made h s =
    (enters (facing c.args.slot c.index_mut.result.now c.enter.new.self c.self.view_is (omega arith) c.index_mut.ensures.value s)
    c.place-place.result c.enter.result (place-made c.place-place.ensures s) c.enter.ensures.ok c.enter.ensures.err
    c.enter.ensures.same).1

pub returns-clause-site : goal.returns-clause-site
returns-clause-site g c = site-of c.self.invariant c.self.view_is (returns-clause-stands g c)

pub returns-clause-own : goal.returns-clause-own
returns-clause-own g c =
    known c.self.invariant c.self.view_is (λ made h s.
    entered-own made h _ c.args.slot c.enter.result _ (returns-clause-stands g c made h s) (returns-clause-answers g c made h s))
