-- The mark of the group's view is one event more.
use Rattle.lb_health_core.specs.RegistryEvents.{Marked}
use Rattle.lb_threads_core.proofs.Histories.{later, marked_later}
use Rattle.lb_threads_group.proofs.group.SharedGroup.cancel.Goals as goal

pub put_registry-requires-clause-registry : goal.put_registry-requires-clause-registry
put_registry-requires-clause-registry g c =
    later c.take_registry-registry.ensures.registry
    (marked_later (Marked c.take-held.result.value.core.view.id) c.cancel.ensures.cancelled.registry)
