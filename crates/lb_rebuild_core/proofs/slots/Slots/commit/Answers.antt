-- Each slot has its order, of the generation that is the newest from then on.
use Rattle.lb_rebuild_core.proofs.SlotsSteps.{stays, site-of}
use Rattle.lb_rebuild_core.proofs.Memberships.{commits}
use Rattle.lb_rebuild_core.proofs.slots.Slots.commit.Goals as goal

pub invariant_of-self : goal.invariant_of-self
invariant_of-self g c =
    stays c.self.invariant c.self.view_is (λ made h s.
    commits made h _ _ _ _ _ _ _ c.args.now _ c.self.inside.slots.items c.hand_out.new.slots.items _ _ c.args.self.now c.args.prepared
    c.self.view_is c.prepared.view_is c.requires s c.hand_out.ensures)

pub returns-clause-stands : goal.returns-clause-stands
returns-clause-stands g c made h s =
    commits made h _ _ _ _ _ _ _ c.args.now _ c.self.inside.slots.items c.hand_out.new.slots.items _ _ c.args.self.now c.args.prepared
    c.self.view_is c.prepared.view_is c.requires s c.hand_out.ensures

pub returns-clause-site : goal.returns-clause-site
returns-clause-site g c = site-of c.self.invariant c.self.view_is (returns-clause-stands g c)
