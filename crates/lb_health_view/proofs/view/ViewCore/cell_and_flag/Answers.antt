use Rattle.std.proofs.Common.{ap, sym, ◌∙◌, subst}
use Rattle.lb_health_view.specs.Snapshots.{snapshot_of, snapshot_at, lists_in}
use Rattle.lb_health_view.specs.Views.{IsViewAfter}
use Rattle.lb_health_view.proofs.OwnCellLemmas.{own-found}
use Rattle.lb_health_view.proofs.SnapshotLemmas.{find_found, lists_found}
use Rattle.lb_health_view.proofs.view.ViewCore.cell_and_flag.Goals as goal

pub returns-in-Some : goal.returns-in-Some
returns-in-Some c = λ views h.
    let before = subst (λ v. IsViewAfter views v) (sym c.self.view_is) h in
    let place = rw c.as_slice.ensures.value at (sym c.place_of.ensures ∙ c.in-Some.is) in
    let found = find_found c.args.generation (snapshot_of c.self.inside.current) c.self.inside.earlier.items c.in-Some.place
    c.index.result.now c.if-self-generation.false place c.index.ensures in
    let there = ap (λ ss. snapshot_at c.args.generation ss) (sym before.snapshots) ∙ found in
    rw there (c.cell_of-in-Some.ensures views h
    (own-found c.self.inside.earlier.items c.in-Some.place c.args.generation c.index.result.now c.self.invariant.1.1 place c.index.ensures)
    (λ l. ap (λ ss. lists_in c.args.backend.now ss) (sym before.snapshots)
    ∙ lists_found c.args.backend.now (snapshot_of c.self.inside.current) c.self.inside.earlier.items c.in-Some.place c.args.generation
    c.index.result.now place c.index.ensures l))
