-- A view that is registered is two events more.
use Rattle.lb_threads_core.proofs.Histories.{later, registered_later}
use Rattle.lb_threads_core.proofs.registry.HealthRegistry.register_view.Goals as goal

pub put-requires-clause-registry : goal.put-requires-clause-registry
put-requires-clause-registry g c =
    let is = c.register_view-told.ensures.registered in
    later c.take-held.ensures.registry (registered_later c.register_view-told.result is.ok is.err)

pub returns-clause-registered : goal.returns-clause-registered
returns-clause-registered g c =
    let is = c.register_view-told.ensures.registered in (
      c.take-held.result.value,
      (
        c.register_view-told.new.self,
        (
          c.take-held.ensures.registry,
          (registered_later c.register_view-told.result is.ok is.err, is),
        ),
      ),
    )
