-- By what the making of the core says of its refusals.
use Rattle.lb_health_core.specs.RegistryEvents.{registered_after}
use Rattle.lb_world.proofs.Words.{[], least, map}
use Rattle.lb_rebuild_core.proofs.LeastApart.{least-apart}
use Rattle.lb_world.proofs.Causes.{fits-for, unmade-for}
use Rattle.lb_world.proofs.entry.Entry.new.Goals as goal

pub returns-in-Ok-clause-uncaused : goal.returns-in-Ok-clause-uncaused
returns-in-Ok-clause-uncaused g c = λ k es now. fits-for _ _ _ c.in-Ok.ensures.made.refused (c.in-Ok.ensures.made.exhausted k es now)

pub returns-in-Err-clause-refused : goal.returns-in-Err-clause-refused
returns-in-Err-clause-refused g c =
    let causes = map (g.S.BackendSelection.refusal []) c.args.configs.items in
    λ k es now.
    unmade-for (least causes) (registered_after es) c.in-Err.refusal (least-apart causes) c.in-Err.ensures.made.refused
    (c.in-Err.ensures.made.exhausted k es now)
