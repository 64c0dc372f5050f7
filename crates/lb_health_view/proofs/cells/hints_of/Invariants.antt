use Rattle.std.proofs.Common.{◌≡◌, Some}
use Rattle.std.specs.List.{All}
use Rattle.lb_health_view.specs.Internal.Hints.{AreHints}
use Rattle.lb_health_view.specs.Snapshots.{value_at}
use Rattle.lb_health_view.proofs.cells.hints_of.Given as goal

abbrev pub invariant-loop-backend : goal.invariant-loop-backend
invariant-loop-backend l = record {
  hints : AreHints l.by_backend.entries l.hints.items;
  left : All (λ e. value_at l.by_backend.entries e.0 ≡ Some e.1) l.backend-iterator;
}
