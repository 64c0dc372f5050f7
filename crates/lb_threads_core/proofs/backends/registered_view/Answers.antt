-- The registry has a view more, or is as before.
use Rattle.lb_threads_core.proofs.Histories.{later, registered_later}
use Rattle.lb_threads_core.proofs.Registrations.{registered-as}
use Rattle.lb_threads_core.proofs.backends.registered_view.Goals as goal

pub put-requires-clause-registry : goal.put-requires-clause-registry
put-requires-clause-registry g c =
    let is = c.register-told.ensures.registered in
    later c.take-cells.ensures.registry (registered_later _ is.ok is.err)

pub returns-clause-registered : goal.returns-clause-registered
returns-clause-registered g c =
    let is = c.register-told.ensures.registered in (
      c.take-cells.result.value,
      (
        c.register-told.new.registry,
        (
          c.take-cells.ensures.registry,
          (
            registered_later _ is.ok is.err,
            registered-as (λ v. v.id) c.register-told.result is,
          ),
        ),
      ),
    )
