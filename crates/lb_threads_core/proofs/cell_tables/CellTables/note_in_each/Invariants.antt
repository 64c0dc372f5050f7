-- Nothing changes but words.
use Rattle.std.specs.Prelude.{⊤}
use Rattle.lb_threads_core.proofs.cell_tables.CellTables.note_in_each.Given as goal

abbrev pub invariant-loop-place : goal.invariant-loop-place
invariant-loop-place g l = ⊤
