-- No slot has a permit yet.
use Rattle.std.proofs.Common.{subst, sym}
use Rattle.lb_rebuild_core.specs.Stands.{StandsFor}
use Rattle.lb_rebuild_core.specs.Values.{SlotsValue}
use Rattle.lb_rebuild_core.proofs.Gates.{gated}
use Rattle.lb_rebuild_core.proofs.SlotsSteps.{known}
use Rattle.lb_rebuild_core.proofs.slots.Slots.with_rebuild_gate.Goals as goal

pub returns-clause-stands : goal.returns-clause-stands
returns-clause-stands g c made h s =
    let k = c.args.gate.now.id in
    rw c.of.ensures (subst (λ (v : SlotsValue g.row.S-Config.Denot). StandsFor (record made { gate = k }) h (record v { gate = k }))
    (sym c.self.view_is) (gated k made h c.args.self.now (c.requires made h s) s))

pub invariant_of-self : goal.invariant_of-self
invariant_of-self g c =
    known c.self.invariant c.self.view_is (λ made h s. (record made { gate = c.args.gate.now.id }, (h, returns-clause-stands g c made h s)))
