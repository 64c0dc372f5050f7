-- The selector's slot is put back in its place.
use Rattle.std.proofs.Common.{◌∙◌}
use Rattle.lb_rebuild_core.proofs.SlotsSteps.{coming, stays, gate-made, site-of}
use Rattle.lb_rebuild_core.proofs.CallSteps.{publishes}
use Rattle.lb_rebuild_core.proofs.slots.Slots.publish.Goals as goal

pub invariant_of-self : goal.invariant_of-self
invariant_of-self g c =
    stays c.self.invariant c.self.view_is (λ made h s.
    let w = coming c.slot-slot.result c.index_mut.result.now c.publish.new.self c.self.view_is c.slot-slot.ensures c.requires.config
    c.index_mut.ensures.value s in
    (publishes w.faces c.args.built c.publish.result c.slot-slot.ensures w.config (c.requires.permit ∙ gate-made s) c.publish.ensures).1)

pub returns-clause-answers : goal.returns-clause-answers
returns-clause-answers g c made h s =
    let w = coming c.slot-slot.result c.index_mut.result.now c.publish.new.self c.self.view_is c.slot-slot.ensures c.requires.config
    c.index_mut.ensures.value s in
    (publishes w.faces c.args.built c.publish.result c.slot-slot.ensures w.config (c.requires.permit ∙ gate-made s) c.publish.ensures).0

pub returns-clause-stands : goal.returns-clause-stands
returns-clause-stands g c made h s =
    let w = coming c.slot-slot.result c.index_mut.result.now c.publish.new.self c.self.view_is c.slot-slot.ensures c.requires.config
    c.index_mut.ensures.value s in
    (publishes w.faces c.args.built c.publish.result c.slot-slot.ensures w.config (c.requires.permit ∙ gate-made s) c.publish.ensures).1

pub returns-clause-site : goal.returns-clause-site
returns-clause-site g c = site-of c.self.invariant c.self.view_is (returns-clause-stands g c)
