use Rattle.lb_health_core.specs.Table.{table_value}
use Rattle.lb_health_core.proofs.TableLemmas.{committed}
use Rattle.lb_health_core.proofs.table.CellTable.commit.Goals as goal

pub returns-clause-after : goal.returns-clause-after
returns-clause-after g c =
    λ events later s.
    c.prune.ensures.after later
    (committed g.met.K.Ord.total events later (table_value c.args.self.now) c.args.numbering.by_key.entries c.args.numbering.next s)

pub returns-clause-pruned : goal.returns-clause-pruned
returns-clause-pruned g c =
    λ events later s.
    c.prune.ensures.pruned later
    (committed g.met.K.Ord.total events later (table_value c.args.self.now) c.args.numbering.by_key.entries c.args.numbering.next s)
