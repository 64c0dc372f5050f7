use Rattle.std.proofs.Common.{◌≡◌, fold}
use Rattle.std.specs.BTreeSet.{insert_key}
use Rattle.std.specs.Ordering.{nat_cmp}
use Rattle.lb_health_core.specs.RegistryEvents.{cells_in}
use Rattle.lb_health_core.proofs.change.numbers_of.Given as goal

abbrev pub invariant-loop-cell : goal.invariant-loop-cell
invariant-loop-cell l = fold (insert_key nat_cmp) l.numbers.keys l.cell-iterator ≡ cells_in l.cells.entries
