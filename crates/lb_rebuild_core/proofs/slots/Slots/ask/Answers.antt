-- The slot that was asked is put back in its place.
use Rattle.std.proofs.Common.{arith, ◌∙◌, refl}
use Rattle.lb_rebuild_core.proofs.SlotsSteps.{facing, count-is, known, stays, gate-made, place-made, site-of}
use Rattle.lb_rebuild_core.proofs.CallSteps.{asked-stands, asks, own-job, gate-stays}
use Rattle.lb_rebuild_core.proofs.slots.Slots.ask.Goals as goal

pub returns-then-slot-len-clause-answers : goal.returns-then-slot-len-clause-answers
returns-then-slot-len-clause-answers g c made h s =
    (refl, omega (arith, count-is _ c.self.view_is s))

pub invariant_of-self : goal.invariant_of-self
invariant_of-self g c =
    stays c.self.invariant c.self.view_is (λ made h s.
    asked-stands (facing c.args.slot c.index_mut.result.now c.ask.new.self c.self.view_is (omega arith) c.index_mut.ensures.value s)
    _ _ _ _ (c.requires ∙ gate-made s) c.ask.ensures.told c.ask.ensures.slot)

pub returns-clause-answers : goal.returns-clause-answers
returns-clause-answers g c made h s =
    asks (facing c.args.slot c.index_mut.result.now c.ask.new.self c.self.view_is (omega arith) c.index_mut.ensures.value s) c.ask.result _
    _ c.place-place.result _ (place-made c.place-place.ensures s) (c.requires ∙ gate-made s) c.ask.ensures.told c.ask.ensures.job

pub returns-clause-stands : goal.returns-clause-stands
returns-clause-stands g c made h s =
    asked-stands (facing c.args.slot c.index_mut.result.now c.ask.new.self c.self.view_is (omega arith) c.index_mut.ensures.value s)
    _ _ _ _ (c.requires ∙ gate-made s) c.ask.ensures.told c.ask.ensures.slot

pub returns-clause-site : goal.returns-clause-site
returns-clause-site g c = site-of c.self.invariant c.self.view_is (returns-clause-stands g c)

pub returns-clause-own : goal.returns-clause-own
returns-clause-own g c =
    known c.self.invariant c.self.view_is (λ made h s.
    own-job made h _ c.args.slot c.ask.result _ (returns-clause-stands g c made h s) (returns-clause-answers g c made h s).2)

pub returns-clause-one_gate : goal.returns-clause-one_gate
returns-clause-one_gate g c = gate-stays _ _ _ c.ask.ensures.gate
