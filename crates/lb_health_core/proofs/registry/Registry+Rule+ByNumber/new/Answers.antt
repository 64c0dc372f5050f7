use Rattle.lb_health_core.specs.Keys.{by_identity}
use Rattle.lb_health_core.proofs.registry.Registry+Rule+ByNumber.new.Goals as goal

pub returns : goal.returns
returns g c = c.with_rule.ensures by_identity (λ b k h. h)
