-- The slot of the job is put back in its place.
use Rattle.std.proofs.Common.{◌∙◌, false, sym, true}
use Rattle.lb_rebuild_core.proofs.SlotsSteps.{coming, gate-made, known, stays, site-of}
use Rattle.lb_rebuild_core.proofs.CallSteps.{failed-stands, awaited-at, permit-is}
use Rattle.lb_rebuild_core.proofs.slots.Slots.fail.Goals as goal

pub invariant_of-self : goal.invariant_of-self
invariant_of-self g c =
    stays c.self.invariant c.self.view_is (λ made h s.
    let w = coming c.slot-slot.result c.index_mut.result.now c.fail.new.self c.self.view_is c.slot-slot.ensures c.requires.config
    c.index_mut.ensures.value s in
    w.faces.same c.in-Err.ensures.2)

pub returns-in-Err-clause-answers : goal.returns-in-Err-clause-answers
returns-in-Err-clause-answers g c made h s =
    let w = coming c.slot-slot.result c.index_mut.result.now c.fail.new.self c.self.view_is c.slot-slot.ensures c.requires.config
    c.index_mut.ensures.value s in
    (awaited-at w.faces c.args.job.slot c.args.job.generation false c.slot-slot.ensures c.in-Err.ensures.0, c.in-Err.ensures.1)

pub returns-in-Err-clause-stands : goal.returns-in-Err-clause-stands
returns-in-Err-clause-stands g c made h s =
    let w = coming c.slot-slot.result c.index_mut.result.now c.fail.new.self c.self.view_is c.slot-slot.ensures c.requires.config
    c.index_mut.ensures.value s in
    w.faces.same c.in-Err.ensures.2

pub invariant_of-self-2 : goal.invariant_of-self-2
invariant_of-self-2 g c =
    stays c.self.invariant c.self.view_is (λ made h s.
    let w = coming c.slot-slot.result c.index_mut.result.now c.fail.new.self c.self.view_is c.slot-slot.ensures c.requires.config
    c.index_mut.ensures.value s in
    failed-stands w.faces c.args.job c.args.now c.slot-slot.ensures w.config c.in-Ok.ensures.0 c.in-Ok.ensures.2)

pub returns-clause-answers : goal.returns-clause-answers
returns-clause-answers g c made h s =
    let w = coming c.slot-slot.result c.index_mut.result.now c.fail.new.self c.self.view_is c.slot-slot.ensures c.requires.config
    c.index_mut.ensures.value s in
    awaited-at w.faces c.args.job.slot c.args.job.generation true c.slot-slot.ensures c.in-Ok.ensures.0

pub returns-clause-stands : goal.returns-clause-stands
returns-clause-stands g c made h s =
    let w = coming c.slot-slot.result c.index_mut.result.now c.fail.new.self c.self.view_is c.slot-slot.ensures c.requires.config
    c.index_mut.ensures.value s in
    failed-stands w.faces c.args.job c.args.now c.slot-slot.ensures w.config c.in-Ok.ensures.0 c.in-Ok.ensures.2

pub returns-clause-site : goal.returns-clause-site
returns-clause-site g c = site-of c.self.invariant c.self.view_is (returns-clause-stands g c)

pub returns-in-Err-clause-site : goal.returns-in-Err-clause-site
returns-in-Err-clause-site g c = site-of c.self.invariant c.self.view_is (returns-in-Err-clause-stands g c)

-- the slot's permit is of the group's gate
pub give_back-requires : goal.give_back-requires
give_back-requires g c =
    known c.self.invariant c.self.view_is (λ made h s.
    let w = coming c.slot-slot.result c.index_mut.result.now c.fail.new.self c.self.view_is c.slot-slot.ensures c.requires.config
    c.index_mut.ensures.value s in
    permit-is w.faces c.in-Ok.permit c.in-Ok.ensures.1 ∙ sym (gate-made s) ∙ sym c.requires.gate)
