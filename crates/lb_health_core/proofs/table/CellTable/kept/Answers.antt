use Rattle.std.proofs.Common.{ap, sym}
use Rattle.std.specs.Option.{is_some}
use Rattle.lb_health_core.specs.Table.{table_value}
use Rattle.lb_health_core.proofs.TableLemmas.{kept-health}
use Rattle.lb_health_core.proofs.table.CellTable.kept.Goals as goal

pub returns-clause-kept : goal.returns-clause-kept
returns-clause-kept g c =
    λ events table only.
    let stored = sym c.in_ok-stored.ensures.value in
    let k = only c.args.cell (ap is_some stored) in
    (k, kept-health g.met.K.Ord.total events (table_value c.args.self.now) table c.args.cell c.in_ok-stored.stored.now stored k)
