use Rattle.std.proofs.Common.{◌≡◌, List, ◌∷◌, None, refl, rules}
use Rattle.std.specs.Ordering.{eq_by_cmp}
use Rattle.lb_health_core.specs.CellEvents.{CellEvent, Changed, changes, given_after}
use Rattle.lb_health_core.specs.Internal.Changing.{last_keys}
use Rattle.lb_health_core.specs.Table.{table_value, IsTableAfter}
use Rattle.lb_health_core.proofs.TableLemmas.{started-none, started-more, refused-stays, refused_for}
use Rattle.lb_health_core.proofs.MarkLemmas.{started-left}
use Rattle.lb_health_core.proofs.table.CellTable.started.Goals as goal

pub returns-in_default-clause-ok : goal.returns-in_default-clause-ok
returns-in_default-clause-ok g c =
    λ events table.
    let t = table_value c.args.self.now in
    let given = given_after (eq_by_cmp g.K.Ord.cmp) events in
    let none : c.args.first ≡ None = search rules in
    let keys = last_keys (changes events) in
    let one = started-left g.met.K.Ord.total events keys t refl table in
    rw none
    (started-more g.met.K.Ord.total events (Changed keys ∷ events) c.args.second.now t
    t.by_key c.in_ok-after.after.by_key.entries t.next c.in_ok-after.after.next
    c.renumbered.new.cells one c.renumbered.ensures.others (c.in_ok-after.ensures.ok (keys ∷ changes events) one.numbering)
    (c.in_ok-after.ensures.stored (keys ∷ changes events) given one.numbering one.stored))

pub returns-in_err-after-clause-err : goal.returns-in_err-after-clause-err
returns-in_err-after-clause-err g c =
    let t = table_value c.args.self.now in
    let stays : (events : List (CellEvent g.row.K.Denot)) → IsTableAfter g.K.Ord.cmp events t
    → IsTableAfter g.K.Ord.cmp events (record t { cells = c.renumbered.new.cells })
    = λ events table.
    refused-stays g.met.K.Ord.total events events t t.by_key t.next c.renumbered.new.cells (started-none g.met.K.Ord.total events t table)
    c.renumbered.ensures.others in
    refused_for c.from_residual.result stays

pub returns-in_err-between-clause-err : goal.returns-in_err-between-clause-err
returns-in_err-between-clause-err g c =
    let t = table_value c.args.self.now in
    let stays : (events : List (CellEvent g.row.K.Denot)) → IsTableAfter g.K.Ord.cmp events t
    → IsTableAfter g.K.Ord.cmp events (record t { cells = c.renumbered-2.new.cells })
    = λ events table.
    refused-stays g.met.K.Ord.total events events t t.by_key t.next c.renumbered-2.new.cells (started-none g.met.K.Ord.total events t table)
    c.renumbered-2.ensures.others in
    refused_for c.from_residual-in_err-between.result stays

pub returns-in_err-after-2-clause-err : goal.returns-in_err-after-2-clause-err
returns-in_err-after-2-clause-err g c =
    let t = table_value c.args.self.now in
    let first = c.in-Some.first.now in
    let stays : (events : List (CellEvent g.row.K.Denot)) → IsTableAfter g.K.Ord.cmp events t
    → IsTableAfter g.K.Ord.cmp events (record t { cells = c.renumbered-3.new.cells })
    = λ events table.
    let given = given_after (eq_by_cmp g.K.Ord.cmp) events in
    let none = started-none g.met.K.Ord.total events t table in
    let one = started-more g.met.K.Ord.total events events first t t.by_key c.in_ok-between.between.by_key.entries t.next
    c.in_ok-between.between.next
    c.renumbered-2.new.cells none c.renumbered-2.ensures.others (c.in_ok-between.ensures.ok (changes events) table.numbering)
    (c.in_ok-between.ensures.stored (changes events) given table.numbering none.stored) in
    refused-stays g.met.K.Ord.total events (Changed first ∷ events) (record t { cells = c.renumbered-2.new.cells })
    c.in_ok-between.between.by_key.entries c.in_ok-between.between.next c.renumbered-3.new.cells one c.renumbered-3.ensures.others in
    refused_for c.from_residual-in_err-after-2.result stays

pub returns-clause-ok : goal.returns-clause-ok
returns-clause-ok g c =
    λ events table.
    let t = table_value c.args.self.now in
    let first = c.in-Some.first.now in
    let given = given_after (eq_by_cmp g.K.Ord.cmp) events in
    let none = started-none g.met.K.Ord.total events t table in
    let one = started-more g.met.K.Ord.total events events first t t.by_key c.in_ok-between.between.by_key.entries t.next
    c.in_ok-between.between.next
    c.renumbered-2.new.cells none c.renumbered-2.ensures.others (c.in_ok-between.ensures.ok (changes events) table.numbering)
    (c.in_ok-between.ensures.stored (changes events) given table.numbering none.stored) in
    rw c.in-Some.is
    (started-more g.met.K.Ord.total events (Changed first ∷ events) c.args.second.now (record t { cells = c.renumbered-2.new.cells })
    c.in_ok-between.between.by_key.entries c.in_ok-after-2.after.by_key.entries c.in_ok-between.between.next c.in_ok-after-2.after.next
    c.renumbered-3.new.cells one c.renumbered-3.ensures.others (c.in_ok-after-2.ensures.ok (first ∷ changes events) one.numbering)
    (c.in_ok-after-2.ensures.stored (first ∷ changes events) given one.numbering one.stored))
