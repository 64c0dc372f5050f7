-- The views whose owners are gone are events more.
use Rattle.lb_threads_core.proofs.Histories.{later}
use Rattle.lb_threads_core.proofs.registry.HealthRegistry.take.Goals as goal

pub returns-clause-registry : goal.returns-clause-registry
returns-clause-registry g c = later c.taken-held.ensures.registry c.look_for_gone.ensures.registry
