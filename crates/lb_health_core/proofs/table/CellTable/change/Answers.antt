use Rattle.std.proofs.Common.{◌∷◌}
use Rattle.std.specs.Ordering.{eq_by_cmp}
use Rattle.lb_health_core.specs.CellEvents.{Changed, changes, given_after}
use Rattle.lb_health_core.specs.Table.{table_value}
use Rattle.lb_health_core.proofs.TableLemmas.{started-none, started-more, refused-stays}
use Rattle.lb_health_core.proofs.table.CellTable.change.Goals as goal

pub returns-in-Ok-clause-ok : goal.returns-in-Ok-clause-ok
returns-in-Ok-clause-ok g c =
    λ events table.
    let t = table_value c.args.self.now in
    let none = started-none g.met.K.Ord.total events t table in
    c.commit.ensures.after events (Changed c.args.keys.now ∷ events)
    (started-more g.met.K.Ord.total events events c.args.keys.now t t.by_key c.in-Ok.numbering.by_key.entries t.next c.in-Ok.numbering.next
    c.renumbered.new.cells none c.renumbered.ensures.others (c.in-Ok.ensures.ok (changes events) table.numbering)
    (c.in-Ok.ensures.stored (changes events) (given_after (eq_by_cmp g.K.Ord.cmp) events) table.numbering none.stored))

pub returns-in-Ok-clause-pruned : goal.returns-in-Ok-clause-pruned
returns-in-Ok-clause-pruned g c =
    λ events table.
    let t = table_value c.args.self.now in
    let none = started-none g.met.K.Ord.total events t table in
    c.commit.ensures.pruned events (Changed c.args.keys.now ∷ events)
    (started-more g.met.K.Ord.total events events c.args.keys.now t t.by_key c.in-Ok.numbering.by_key.entries t.next c.in-Ok.numbering.next
    c.renumbered.new.cells none c.renumbered.ensures.others (c.in-Ok.ensures.ok (changes events) table.numbering)
    (c.in-Ok.ensures.stored (changes events) (given_after (eq_by_cmp g.K.Ord.cmp) events) table.numbering none.stored))

pub returns-in-Err-clause-err : goal.returns-in-Err-clause-err
returns-in-Err-clause-err g c =
    λ events table.
    let t = table_value c.args.self.now in
    c.prune.ensures.after events
    (refused-stays g.met.K.Ord.total events events t t.by_key t.next c.renumbered.new.cells (started-none g.met.K.Ord.total events t table)
    c.renumbered.ensures.others)

pub returns-in-Err-clause-pruned_err : goal.returns-in-Err-clause-pruned_err
returns-in-Err-clause-pruned_err g c =
    λ events table.
    let t = table_value c.args.self.now in
    c.prune.ensures.pruned events
    (refused-stays g.met.K.Ord.total events events t t.by_key t.next c.renumbered.new.cells (started-none g.met.K.Ord.total events t table)
    c.renumbered.ensures.others)
