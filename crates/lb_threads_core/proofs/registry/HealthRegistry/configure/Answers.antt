-- That cells begin unhealthy is one event more.
use Rattle.std.proofs.Common.{false}
use Rattle.lb_health_core.specs.RegistryEvents.{Configured}
use Rattle.lb_threads_core.proofs.Histories.{later, marked_later}
use Rattle.lb_threads_core.proofs.registry.HealthRegistry.configure.Goals as goal

pub put-requires-clause-registry : goal.put-requires-clause-registry
put-requires-clause-registry g c =
    later c.take-value.ensures.registry (marked_later (Configured false) c.start_unhealthy-value.ensures.after)

pub returns : goal.returns
returns g c =
    let configured = c.start_unhealthy-value.ensures.after in (
      c.take-value.result.value,
      (c.start_unhealthy-value.result, (c.take-value.ensures.registry, (marked_later (Configured false) configured, configured))),
    )
