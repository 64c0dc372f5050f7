-- Every slot is as before.
use Rattle.std.proofs.Common.{}
use Rattle.lb_rebuild_core.proofs.SlotsSteps.{stays, site-of}
use Rattle.lb_rebuild_core.proofs.Memberships.{stops}
use Rattle.lb_rebuild_core.proofs.slots.Slots.cancel.Goals as goal

pub invariant_of-self : goal.invariant_of-self
invariant_of-self g c =
    stays c.self.invariant c.self.view_is (λ made h s. stops made h _ _ _ _ _ _ _ _ c.self.view_is s)

pub returns-clause-stands : goal.returns-clause-stands
returns-clause-stands g c made h s =
    stops made h _ _ _ _ _ _ _ _ c.self.view_is s

pub returns-clause-site : goal.returns-clause-site
returns-clause-site g c = site-of c.self.invariant c.self.view_is (returns-clause-stands g c)
