-- What was discovered is what the renewal took.
use Rattle.std.proofs.Common.{subst}
use Rattle.lb_health_view.specs.RegistrySide.{settings_of}
use Rattle.lb_balancer_core.specs.ServedViews.{TakesIn}
use Rattle.lb_balancer.specs.History.{UnderServing}
use Rattle.lb_balancer.proofs.balancing.Balancing.take_in.Goals as goal

pub returns-clause-taken : goal.returns-clause-taken
returns-clause-taken g c =
    subst (λ f. UnderServing c.args.self.now (TakesIn f.0.keys (settings_of f.1.entries))) c.in-Some.ensures c.in_ok-renew.ensures.taken
