use Rattle.lb_threads_core.proofs.registry.HealthRegistry.is_full.Goals as goal

pub returns : goal.returns
returns g c = (c.take-held.result.value, (c.take-held.ensures.registry, c.is_full-is_full.ensures))
