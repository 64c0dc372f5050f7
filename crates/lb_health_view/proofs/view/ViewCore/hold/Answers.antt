use Rattle.std.proofs.Common.{◌≡◌, ◌<◌, ◌+◌, sym, ◌∙◌, refl, subst, arith, map, ◌∷◌}
use Rattle.std.specs.Prelude.{All, ◌^◌}
use Rattle.lb_health_view.specs.Snapshots.{SnapshotValue, ViewValue, snapshot_of, held_more}
use Rattle.lb_health_view.specs.Views.{IsViewAfter}
use Rattle.lb_health_view.specs.Internal.ViewInvariants.{HaveOwnCells}
use Rattle.lb_health_view.proofs.OwnCellLemmas.{own-at}
use Rattle.lb_health_view.proofs.SnapshotLemmas.{at_current, at_found, at_none, count_at}
use Rattle.lb_health_view.proofs.ViewLemmas.{held}
use Rattle.lb_health_view.proofs.view.ViewCore.hold.Goals as goal

pub overflow_add-self : goal.overflow_add-self
overflow_add-self c =
    let all = subst (λ (v : ViewValue). All (λ (s : SnapshotValue). s.generation ≡ c.args.generation → s.holds + 1 < 2 ^ 64) v.snapshots)
    (sym c.self.view_is) c.requires in
    let here : c.self.inside.current.holds + 1 < 2 ^ 64 = all 0 (snapshot_of c.self.inside.current)
    (omega arith) c.if-self-generation.true in
    omega (arith, here)

pub overflow_add-index_mut : goal.overflow_add-index_mut
overflow_add-index_mut c =
    let all = subst (λ (v : ViewValue). All (λ (s : SnapshotValue). s.generation ≡ c.args.generation → s.holds + 1 < 2 ^ 64) v.snapshots)
    (sym c.self.view_is) c.requires in
    let place = sym c.place_of.ensures ∙ c.in-Some.is in
    let here = count_at c.args.generation (snapshot_of c.self.inside.current) c.self.inside.earlier.items c.in-Some.place
    c.index_mut.result.now all (rw c.as_slice.ensures.value at place) in
    let count : c.index_mut.result.now.holds + 1 < 2 ^ 64 = rw c.index_mut.ensures.value here in
    omega (arith, count)

pub returns-then-self-generation-clause-after : goal.returns-then-self-generation-clause-after
returns-then-self-generation-clause-after c = λ views h.
    let before = subst (λ v. IsViewAfter views v) (sym c.self.view_is) h in
    held views _ _ c.args.generation before refl
    (sym (at_current c.args.generation held_more (snapshot_of c.self.inside.current) (map snapshot_of c.self.inside.earlier.items)
    c.if-self-generation.true)) refl

pub returns-in-Some-clause-after : goal.returns-in-Some-clause-after
returns-in-Some-clause-after c = λ views h.
    let before = subst (λ v. IsViewAfter views v) (sym c.self.view_is) h in
    let place = sym c.place_of.ensures ∙ c.in-Some.is in
    held views _ _ c.args.generation before refl
    (at_found c.args.generation held_more (snapshot_of c.self.inside.current) c.self.inside.earlier.items c.in-Some.place
    c.index_mut.result.now _ c.if-self-generation.false
    (rw c.as_slice.ensures.value at place) c.index_mut.ensures.value refl) refl

pub returns-in_default-clause-after : goal.returns-in_default-clause-after
returns-in_default-clause-after c = λ views h.
    let place = sym c.place_of.ensures ∙ c.in_default.is in
    held views _ _ c.args.generation h refl
    (rw (← c.self.view_is) (at_none c.args.generation held_more (snapshot_of c.self.inside.current) c.self.inside.earlier.items
    c.if-self-generation.false (rw c.as_slice.ensures.value at place))) refl

pub invariant_of-self-in-Some : goal.invariant_of-self-in-Some
invariant_of-self-in-Some c =
    let place = sym c.place_of.ensures ∙ c.in-Some.is in
    let same = at_found c.args.generation held_more (snapshot_of c.self.inside.current) c.self.inside.earlier.items c.in-Some.place
    c.index_mut.result.now _ c.if-self-generation.false
    (rw c.as_slice.ensures.value at place) c.index_mut.ensures.value refl in (
      c.self.invariant.0,
      subst HaveOwnCells (sym same)
          (own-at c.args.generation held_more (λ s h. h) (snapshot_of c.self.inside.current ∷ map snapshot_of c.self.inside.earlier.items)
          c.self.invariant.1),
    )
