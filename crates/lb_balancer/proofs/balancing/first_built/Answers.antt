-- The registry was seen to be full, or not to be.
use Rattle.lb_threads_core.proofs.Registrations.{seen-full, seen-left}
use Rattle.lb_balancer.proofs.balancing.first_built.Goals as goal

pub returns-in-Err-OutOfMemory-clause-exhausted : goal.returns-in-Err-OutOfMemory-clause-exhausted
returns-in-Err-OutOfMemory-clause-exhausted g c = λ apart none. seen-full c.is_full.ensures c.if-is_full.true

pub returns-in-Err-OutOfMemory-2-clause-left : goal.returns-in-Err-OutOfMemory-2-clause-left
returns-in-Err-OutOfMemory-2-clause-left g c = λ apart lost. seen-left c.is_full.ensures c.if-is_full.false
