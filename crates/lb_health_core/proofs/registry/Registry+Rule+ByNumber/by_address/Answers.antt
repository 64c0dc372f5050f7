use Rattle.lb_health_core.specs.Keys.{by_address}
use Rattle.lb_health_core.proofs.registry.Registry+Rule+ByNumber.by_address.Goals as goal

pub returns : goal.returns
returns g c = c.with_rule.ensures by_address (λ b k h. h)
