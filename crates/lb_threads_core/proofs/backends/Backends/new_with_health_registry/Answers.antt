-- The view's number is the one that it was registered under; what is refused after that is refused for memory.
use Rattle.std.proofs.Common.{◌≡◌, Err, rules}
use Rattle.lb_health_view.specs.Snapshots.{ViewValue}
use Rattle.lb_threads_core.specs.View.{ViewHandle}
use Rattle.lb_threads_core.proofs.Registrations.{behind-of, err-of}
use Rattle.lb_threads_core.proofs.backends.Backends.new_with_health_registry.Goals as goal

pub returns-in_err-view-clause-registered : goal.returns-in_err-view-clause-registered
returns-in_err-view-clause-registered g c =
    let e = c.in_err-view.field-0.0 in
    let is : c.from_residual.result ≡ Err e = search rules in
    let registered = c.registered_view.ensures.registered in
    err-of (search rules) (λ (v : ViewValue). v.id) (λ (h : ViewHandle g.row.D.Denot g.row.R.Denot). h.id) registered e
    c.in_err-view.was c.from_residual.result is

pub returns-clause-registered : goal.returns-clause-registered
returns-clause-registered g c =
    let registered = c.registered_view.ensures.registered in
    behind-of (search rules) (λ (v : ViewValue). v.id) (λ (h : ViewHandle g.row.D.Denot g.row.R.Denot). h.id) registered
    c.in_ok-view.view c.in_ok-view.was c.behind.result c.behind.ensures.id c.behind.ensures.refused
