-- The table is of the registry of which it is known.
use Rattle.std.proofs.Common.{subst, sym}
use Rattle.lb_threads_core.specs.CellWords.{WasHealthy}
use Rattle.lb_threads_core.proofs.cell_tables.CellTables.note_in_each.Goals as goal

pub note_again-requires : goal.note_again-requires
note_again-requires g c =
    subst (λ s. WasHealthy g.R.KeyRule.gives s c.args.cell c.args.healthy) (sym c.in-Some.ensures) c.requires.was
