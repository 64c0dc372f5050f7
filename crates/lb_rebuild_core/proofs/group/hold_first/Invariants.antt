use Rattle.std.proofs.Common.{◌≡◌, replicate}
use Rattle.lb_health_view.specs.ViewEvents.{Held}
use Rattle.lb_health_view.specs.Views.{IsViewAfter}
use Rattle.lb_rebuild_core.proofs.group.hold_first.Given as goal

-- the view was held as often as the loop went round
abbrev pub invariant-loop : goal.invariant-loop
invariant-loop l = IsViewAfter (replicate l.counter (Held 0)) l.view × (l.view.id ≡ l.fn.view.id)
