use Rattle.std.proofs.Common.{refl, rules, map, ◌∷◌, Bool}
use Rattle.std.specs.Prelude.{◌||◌, ◌==◌, nat_lt}
use Rattle.std.proofs.lemmas.Fn.{filter_same}
use Rattle.std.proofs.lemmas.Bool.{eq-eqb}
use Rattle.std.proofs.lemmas.Map.Made.{filter_same_pairs}
use Rattle.lb_select_base.specs.Backends.{Member}
use Rattle.lb_health_view.specs.declared.snapshot.ViewSnapshot.{ViewSnapshot}
use Rattle.lb_health_view.specs.Snapshots.{SnapshotValue, snapshot_of, lists_in}
use Rattle.lb_health_view.proofs.OwnCellLemmas.{own-filter}
use Rattle.lb_health_view.proofs.ViewLemmas.{filter-seen, flag-kept}
use Rattle.lb_health_view.proofs.view.ViewCore.prune.Goals as goal

pub returns-clause-snapshots : goal.returns-clause-snapshots
returns-clause-snapshots c =
    let n = c.self.inside.current.generation in
    let kept = filter_same _ (λ (s : ViewSnapshot). s.generation == n || nat_lt 0 s.holds) _
    (λ x b f' t. search rules) _ _ c.retain.ensures.filtered in
    rw (← c.self.view_is) (rw (
      kept,
      filter-seen (λ (s : SnapshotValue). s.generation == n || nat_lt 0 s.holds) c.self.inside.earlier.items,
      eq-eqb n n refl,
    ) refl)

pub returns-clause-flags : goal.returns-clause-flags
returns-clause-flags c =
    let kept = filter_same_pairs _
    (λ (e : Member × Bool). lists_in e.0 (snapshot_of c.self.inside.current ∷ map snapshot_of c.as_slice-earlier.result.now)) _
    (λ k v b w f' t. search rules) _ _ c.retain-2.ensures.filtered in
    rw (← c.self.view_is) (rw c.as_slice-earlier.ensures.value at kept)

pub invariant_of-self : goal.invariant_of-self
invariant_of-self c =
    let n = c.self.inside.current.generation in
    let ss = snapshot_of c.self.inside.current ∷ map snapshot_of c.as_slice-earlier.result.now in
    let kept = filter_same_pairs _ (λ (e : Member × Bool). lists_in e.0 ss) _ (λ k v b w f' t. search rules) _ _
    c.retain-2.ensures.filtered in
    let lives = filter_same _ (λ (s : ViewSnapshot). s.generation == n || nat_lt 0 s.holds) _
    (λ x b f' t. search rules) _ _ c.retain.ensures.filtered in
    let living : SnapshotValue → Bool = λ s. s.generation == n || nat_lt 0 s.holds in (
      λ none b on o. c.self.invariant.0 none b on (flag-kept ss c.self.inside.flags.entries b on (rw kept at o)).1,
      (
        c.self.invariant.1.0,
        rw (lives, filter-seen living c.self.inside.earlier.items)
            (own-filter living (map snapshot_of c.self.inside.earlier.items) c.self.invariant.1.1),
      ),
    )
