-- The slot of the report is put back in its place.
use Rattle.std.proofs.Common.{arith, ◌∙◌, sym, true, false, refl}
use Rattle.lb_rebuild_core.proofs.SlotsSteps.{facing, beyond, gate-made, known, stays, site-of}
use Rattle.lb_rebuild_core.proofs.CallSteps.{owed-at, permit-is, reported-stands}
use Rattle.lb_rebuild_core.proofs.slots.Slots.destroyed.Goals as goal

pub returns-then-slot-len-clause-answers : goal.returns-then-slot-len-clause-answers
returns-then-slot-len-clause-answers g c made h s =
    (rw (beyond _ c.args.slot c.self.view_is (omega arith) s) refl, refl)

pub invariant_of-self : goal.invariant_of-self
invariant_of-self g c =
    stays c.self.invariant c.self.view_is (λ made h s.
    let f = facing c.args.slot c.index_mut.result.now c.report.new.self c.self.view_is (omega arith) c.index_mut.ensures.value s in
    f.same c.in-None.ensures.1)

pub returns-in-None-clause-answers : goal.returns-in-None-clause-answers
returns-in-None-clause-answers g c made h s =
    let f = facing c.args.slot c.index_mut.result.now c.report.new.self c.self.view_is (omega arith) c.index_mut.ensures.value s in
    (owed-at f false c.in-None.ensures.0, refl)

pub returns-in-None-clause-stands : goal.returns-in-None-clause-stands
returns-in-None-clause-stands g c made h s =
    let f = facing c.args.slot c.index_mut.result.now c.report.new.self c.self.view_is (omega arith) c.index_mut.ensures.value s in
    f.same c.in-None.ensures.1

-- the slot's permit is of the group's gate
pub give_back-requires : goal.give_back-requires
give_back-requires g c =
    known c.self.invariant c.self.view_is (λ made h s.
    let f = facing c.args.slot c.index_mut.result.now c.report.new.self c.self.view_is (omega arith) c.index_mut.ensures.value s in
    permit-is f c.in-Some.kept c.in-Some.ensures.1 ∙ sym (gate-made s) ∙ sym c.requires.gate)

pub invariant_of-self-2 : goal.invariant_of-self-2
invariant_of-self-2 g c =
    stays c.self.invariant c.self.view_is (λ made h s.
    reported-stands (facing c.args.slot c.index_mut.result.now c.report.new.self c.self.view_is (omega arith) c.index_mut.ensures.value s)
    c.in-Some.ensures.0 c.in-Some.ensures.2)

pub returns-clause-answers : goal.returns-clause-answers
returns-clause-answers g c made h s =
    owed-at (facing c.args.slot c.index_mut.result.now c.report.new.self c.self.view_is (omega arith) c.index_mut.ensures.value s) true
    c.in-Some.ensures.0

pub returns-clause-stands : goal.returns-clause-stands
returns-clause-stands g c made h s =
    reported-stands (facing c.args.slot c.index_mut.result.now c.report.new.self c.self.view_is (omega arith) c.index_mut.ensures.value s)
    c.in-Some.ensures.0 c.in-Some.ensures.2

pub returns-clause-site : goal.returns-clause-site
returns-clause-site g c = site-of c.self.invariant c.self.view_is (returns-clause-stands g c)

pub returns-in-None-clause-site : goal.returns-in-None-clause-site
returns-in-None-clause-site g c = site-of c.self.invariant c.self.view_is (returns-in-None-clause-stands g c)
