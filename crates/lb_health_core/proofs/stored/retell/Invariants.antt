use Rattle.std.proofs.Common.{◌≡◌, Some}
use Rattle.std.specs.List.{All}
use Rattle.std.specs.Ordering.{nat_cmp}
use Rattle.lb_health_core.specs.Internal.Row.{Tells, stored_health}
use Rattle.lb_health_core.specs.Starts.{value_at}
use Rattle.lb_health_core.proofs.stored.retell.Given as goal

abbrev pub invariant-loop-cell : goal.invariant-loop-cell
invariant-loop-cell g l = record {
  told : Tells (stored_health l.cells.entries) l.row;
  left : All (λ e. value_at nat_cmp l.cells.entries e.0 ≡ Some e.1) l.cell-iterator;
}
