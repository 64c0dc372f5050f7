use Rattle.std.proofs.Common.{[], ◌∷◌, map, ap, ◌∙◌}
use Rattle.std.proofs.lemmas.List.{map-append}
use Rattle.lb_health_core.specs.Table.{hold_of, table_value}
use Rattle.lb_health_core.proofs.TableLemmas.{holding, holding_only}
use Rattle.lb_health_core.proofs.table.CellTable.hold.Goals as goal

pub returns-clause-after : goal.returns-clause-after
returns-clause-after g c =
    λ events table kept.
    holding g.met.K.Ord.total events (table_value c.args.self.now) table c.args.held.view c.args.held.generation c.args.held.cells.keys
    (map hold_of c.push_reserved.new.self.items) kept
    (ap (map hold_of) c.push_reserved.ensures.items ∙ map-append hold_of c.args.self.now.held.items (c.args.held ∷ []))

pub returns-clause-pruned : goal.returns-clause-pruned
returns-clause-pruned g c =
    λ events only.
    holding_only g.met.K.Ord.total events (table_value c.args.self.now) c.args.held.view c.args.held.generation c.args.held.cells.keys
    (map hold_of c.push_reserved.new.self.items) only
