-- What was served at that moment is what some update left.
use Rattle.std.proofs.Common.{◌∙◌}
use Rattle.lb_balancer.proofs.Served.{known}
use Rattle.lb_balancer.proofs.balancing.Balancing.generation_under_lock.Goals as goal

pub returns : goal.returns
returns g c =
    (c.take-held.result.value.served, known (c.self.invariant.0 ∙ c.self.view_is) c.take-held.ensures.fact, c.generation-generation.ensures)
