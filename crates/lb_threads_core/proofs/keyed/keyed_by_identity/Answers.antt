use Rattle.lb_health_core.specs.Keys.{by_identity}
use Rattle.lb_threads_core.proofs.keyed.keyed_by_identity.Goals as goal

pub returns : goal.returns
returns c = c.with_rule.ensures by_identity (λ b k h. h)
