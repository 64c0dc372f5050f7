use Rattle.lb_threads_core.proofs.registry.HealthRegistry.cell_ready.Goals as goal

pub returns : goal.returns
returns g c = (c.take-held.result.value, (c.take-held.ensures.registry, c.cell_ready-told.ensures))
