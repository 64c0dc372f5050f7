-- Another membership is two events more.
use Rattle.lb_threads_core.proofs.Histories.{later, updated_later}
use Rattle.lb_threads_core.proofs.registry.HealthRegistry.update_view.Goals as goal

pub put-requires-clause-registry : goal.put-requires-clause-registry
put-requires-clause-registry g c =
    let is = c.update_view-told.ensures.updated in
    later c.take-held.ensures.registry (updated_later c.update_view-told.result c.args.id c.args.members.keys is.ok is.err)

pub returns-clause-updated : goal.returns-clause-updated
returns-clause-updated g c =
    let is = c.update_view-told.ensures.updated in (
      c.take-held.result.value,
      (
        c.update_view-told.new.self,
        (
          c.take-held.ensures.registry,
          (updated_later c.update_view-told.result c.args.id c.args.members.keys is.ok is.err, is),
        ),
      ),
    )
