-- The marks that wait are applied: one event more.
use Rattle.lb_health_core.specs.RegistryEvents.{Applied}
use Rattle.lb_threads_core.proofs.Histories.{added, later}
use Rattle.lb_threads_core.proofs.registry.HealthRegistry.targets.Goals as goal

pub put-requires-clause-registry : goal.put-requires-clause-registry
put-requires-clause-registry g c =
    let is = c.targets-told.ensures.listed in
    later c.take-held.ensures.registry (added c.targets-told.result Applied is.ok is.err)

pub returns-clause-told : goal.returns-clause-told
returns-clause-told g c =
    let is = c.targets-told.ensures.listed in (
      c.take-held.result.value,
      (
        c.targets-told.new.self,
        (
          c.take-held.ensures.registry,
          (added c.targets-told.result Applied is.ok is.err, is),
        ),
      ),
    )
