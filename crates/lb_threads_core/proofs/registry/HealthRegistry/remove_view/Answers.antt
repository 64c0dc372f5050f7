-- A mark is one event more.
use Rattle.lb_health_core.specs.RegistryEvents.{Marked}
use Rattle.lb_threads_core.proofs.Histories.{later, marked_later}
use Rattle.lb_threads_core.proofs.registry.HealthRegistry.remove_view.Goals as goal

pub put-requires-clause-registry : goal.put-requires-clause-registry
put-requires-clause-registry g c = later c.take-held.ensures.registry (marked_later (Marked c.args.id) c.remove_view.ensures.after)

pub returns : goal.returns
returns g c = (
  c.take-held.result.value,
  (
    c.remove_view.new.self,
    (c.take-held.ensures.registry, (marked_later (Marked c.args.id) c.remove_view.ensures.after, c.remove_view.ensures.after)),
  ),
)
