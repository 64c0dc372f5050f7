-- The number was noted of what was served at that moment.
use Rattle.std.proofs.Common.{◌∙◌}
use Rattle.lb_balancer.proofs.Served.{known}
use Rattle.lb_balancer.proofs.balancing.Balancing.generation.Goals as goal

pub returns-in-Some : goal.returns-in-Some
returns-in-Some g c =
    let is = c.in-Some.ensures in (is.0, known (c.self.invariant.2 ∙ c.self.view_is) is.1, is.2)
