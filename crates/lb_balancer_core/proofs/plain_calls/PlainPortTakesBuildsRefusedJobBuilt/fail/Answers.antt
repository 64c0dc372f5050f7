use Rattle.std.proofs.Common.{rules, refl}
use Rattle.lb_balancer_core.proofs.plain_calls.PlainPortTakesBuildsRefusedJobBuilt.fail.Goals as goal

pub unreachable-requires : goal.unreachable-requires
unreachable-requires g c = search rules

pub returns : goal.returns
returns g c = (rw c.into_job.ensures at c.in-Ok.ensures, refl, (refl, refl, refl, refl, refl))
