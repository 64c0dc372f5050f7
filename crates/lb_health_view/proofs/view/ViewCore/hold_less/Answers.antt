use Rattle.std.proofs.Common.{ap, sym, ◌∙◌, refl, subst, map, List, ◌∷◌}
use Rattle.lb_health_view.specs.Snapshots.{SnapshotValue, ViewValue, snapshot_of, held_less}
use Rattle.lb_health_view.specs.Internal.ViewInvariants.{HaveOwnCells}
use Rattle.lb_health_view.proofs.OwnCellLemmas.{own-at}
use Rattle.lb_health_view.proofs.SnapshotLemmas.{at_found, at_none}
use Rattle.lb_health_view.proofs.view.ViewCore.hold_less.Goals as goal

pub returns-in-Some : goal.returns-in-Some
returns-in-Some c =
    let place = sym c.place_of.ensures ∙ c.in-Some.is in
    let value : List SnapshotValue → ViewValue = λ ss. record {
      id = c.self.inside.id;
      generation = c.self.inside.current.generation;
      snapshots = ss;
      flags = c.self.inside.flags.entries;
    } in
    rw (← c.self.view_is)
    (ap value (at_found c.args.generation held_less (snapshot_of c.self.inside.current) c.self.inside.earlier.items c.in-Some.place
    c.index_mut-snapshot.result.now _ c.if-self-generation.false
    (rw c.as_slice.ensures.value at place) c.index_mut-snapshot.ensures.value (rw c.saturating_sub-snapshot.ensures refl)))

pub returns-in_default : goal.returns-in_default
returns-in_default c =
    let place = sym c.place_of.ensures ∙ c.in_default.is in
    let value : List SnapshotValue → ViewValue = λ ss. record {
      id = c.self.inside.id;
      generation = c.self.inside.current.generation;
      snapshots = ss;
      flags = c.self.inside.flags.entries;
    } in
    rw (← c.self.view_is)
    (ap value (at_none c.args.generation held_less (snapshot_of c.self.inside.current) c.self.inside.earlier.items
    c.if-self-generation.false (rw c.as_slice.ensures.value at place)))

pub invariant_of-self-in-Some : goal.invariant_of-self-in-Some
invariant_of-self-in-Some c =
    let place = sym c.place_of.ensures ∙ c.in-Some.is in
    let same = at_found c.args.generation held_less (snapshot_of c.self.inside.current) c.self.inside.earlier.items c.in-Some.place
    c.index_mut-snapshot.result.now _ c.if-self-generation.false
    (rw c.as_slice.ensures.value at place) c.index_mut-snapshot.ensures.value (rw c.saturating_sub-snapshot.ensures refl) in (
      c.self.invariant.0,
      subst HaveOwnCells (sym same)
          (own-at c.args.generation held_less (λ s h. h) (snapshot_of c.self.inside.current ∷ map snapshot_of c.self.inside.earlier.items)
          c.self.invariant.1),
    )
