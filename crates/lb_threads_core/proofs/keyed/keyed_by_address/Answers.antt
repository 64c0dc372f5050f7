use Rattle.lb_health_core.specs.Keys.{by_address}
use Rattle.lb_threads_core.proofs.keyed.keyed_by_address.Goals as goal

pub returns : goal.returns
returns c = c.with_rule.ensures by_address (λ b k h. h)
