use Rattle.std.proofs.Common.{refl}
use Rattle.std.specs.Ordering.{eq_by_cmp}
use Rattle.lb_health_core.specs.declared.table.Cell.{Cell}
use Rattle.lb_health_core.specs.CellEvents.{verdicts_of, start_of}
use Rattle.lb_health_core.specs.Table.{table_value}
use Rattle.lb_health_core.proofs.RowLemmas.{stored_one}
use Rattle.lb_health_core.proofs.TableLemmas.{observed, observed_only}
use Rattle.lb_health_core.proofs.table.CellTable.observe.Goals as goal

pub returns-clause-after : goal.returns-clause-after
returns-clause-after g c =
    λ events table only.
    let t = table_value c.args.self.now in
    let at = stored_one t.cells c.args.cell (c.in-Some.ensures.stored refl) in
    let made : Cell g.row.K.Denot = record { key = at.0.key; health = c.observe_health-flipped.new.self } in
    let kept = c.in-Some.ensures.kept events table only in
    observed g.met.K.Ord.total events t table c.args.cell (record { ok = c.args.verdict; threshold = c.args.threshold }) at.0 made
    c.set_health.new.self at.1 kept.0 refl
    (c.observe_health-flipped.ensures.after (start_of (eq_by_cmp g.K.Ord.cmp) c.args.cell events) (verdicts_of c.args.cell events) kept.1)
    (c.set_health.ensures.changed at.0 at.1)

pub returns-clause-pruned : goal.returns-clause-pruned
returns-clause-pruned g c =
    λ events only.
    let t = table_value c.args.self.now in
    let at = stored_one t.cells c.args.cell (c.in-Some.ensures.stored refl) in
    let made : Cell g.row.K.Denot = record { key = at.0.key; health = c.observe_health-flipped.new.self } in
    observed_only g.met.K.Ord.total events t c.args.cell (record { ok = c.args.verdict; threshold = c.args.threshold }) at.0 made
    c.set_health.new.self at.1 (c.set_health.ensures.changed at.0 at.1) only
