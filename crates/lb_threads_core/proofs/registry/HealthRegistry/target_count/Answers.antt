-- The marks that wait are applied: one event more.
use Rattle.lb_health_core.specs.RegistryEvents.{Applied}
use Rattle.lb_threads_core.proofs.Histories.{added, later}
use Rattle.lb_threads_core.proofs.registry.HealthRegistry.target_count.Goals as goal

pub put-requires-clause-registry : goal.put-requires-clause-registry
put-requires-clause-registry g c =
    let is = c.target_count-told.ensures.counted in
    later c.take-held.ensures.registry (added c.target_count-told.result Applied is.ok is.err)

pub returns-clause-counted : goal.returns-clause-counted
returns-clause-counted g c =
    let is = c.target_count-told.ensures.counted in (
      c.take-held.result.value,
      (
        c.target_count-told.new.self,
        (
          c.take-held.ensures.registry,
          (added c.target_count-told.result Applied is.ok is.err, is),
        ),
      ),
    )
