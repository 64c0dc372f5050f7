-- The number of a view is no part of its history.
use Rattle.std.proofs.Common.{[], sym, subst}
use Rattle.lb_health_view.specs.Views.{IsViewAfter}
use Rattle.lb_health_view.proofs.view.ViewCore.register.Goals as goal

pub returns-clause-made : goal.returns-clause-made
returns-clause-made g c =
    let h = subst (λ v. IsViewAfter [] v) (sym c.view.view_is) c.in_ok-view.ensures.made.0 in
    record { generation = h.generation; snapshots = h.snapshots; needed = h.needed; stored = h.stored }
