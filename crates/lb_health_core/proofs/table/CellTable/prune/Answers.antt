use Rattle.lb_health_core.specs.Table.{table_value}
use Rattle.lb_health_core.proofs.TableLemmas.{prunes, pruned_only}
use Rattle.lb_health_core.proofs.table.CellTable.prune.Goals as goal

pub returns-clause-after : goal.returns-clause-after
returns-clause-after g c =
    λ events table.
    prunes g.met.K.Ord.total events (table_value c.args.self.now) c.retain.new.self table c.retain.ensures.ordered
    (rw c.deref.ensures.value at c.retain.ensures.left)

pub returns-clause-pruned : goal.returns-clause-pruned
returns-clause-pruned g c =
    λ events table.
    pruned_only g.met.K.Ord.total events (table_value c.args.self.now) c.retain.new.self table c.retain.ensures.ordered
    (rw c.deref.ensures.value at c.retain.ensures.left)
