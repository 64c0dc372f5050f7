-- The registry was seen to be full, or not to be.
use Rattle.lb_threads_core.proofs.Registrations.{seen-full, seen-left}
use Rattle.lb_balancer_group.proofs.making.first_cause.Goals as goal

pub returns-in-None-clause-exhausted : goal.returns-in-None-clause-exhausted
returns-in-None-clause-exhausted g c = λ none. seen-full c.is_full.ensures c.if-is_full.true

pub returns-in-None-2-clause-left : goal.returns-in-None-2-clause-left
returns-in-None-2-clause-left g c = seen-left c.is_full.ensures c.if-is_full.false
