use Rattle.std.proofs.Common.{◌≡◌, ap, sym, ◌∙◌, refl, subst, map, List, [], ◌∷◌, ◌++◌, ◌+◌, ℕ, rules, Result, OnErr}
use Rattle.std.specs.Arc.{arc_value}
use Rattle.std.specs.Prelude.{Bool, true, false, if◌then◌else◌}
use Rattle.lb_select_base.specs.Backends.{Member}
use Rattle.lb_health_core.specs.Registry.{IsRegistryAfter, HasOwnCells}
use Rattle.lb_health_core.specs.RegistryEvents.{shown_cells, Event, Released, after_show}
use Rattle.lb_health_view.specs.RegistrySide.{lives, view_changed}
use Rattle.lb_health_view.specs.declared.snapshot.ViewSnapshot.{ViewSnapshot}
use Rattle.lb_health_view.specs.Snapshots.{SnapshotValue, ViewValue, snapshot_of, living}
use Rattle.lb_health_view.specs.ViewEvents.{ViewEvent, Shown, by_age, new_snapshot, snapshots_after, generation_after}
use Rattle.lb_health_view.specs.Views.{IsViewAfter, Flags}
use Rattle.lb_health_view.specs.Internal.ViewInvariants.{HaveOwnCells}
use Rattle.lb_health_view.proofs.FlagLemmas.{flags-more}
use Rattle.lb_health_view.proofs.OwnCellLemmas.{own-behind}
use Rattle.lb_health_view.proofs.SnapshotLemmas.{shown_snapshots}
use Rattle.lb_health_view.proofs.ViewLemmas.{roomier, shown, on_err}
use Rattle.lb_health_view.proofs.view.ViewCore.change.Goals as goal
use Rattle.lb_health_view.proofs.view.ViewCore.change.Goals.{then-not-lives, else-not-lives}

-- room was made, and nothing else
still :
    {T E : Type 0} (r : Result T E) (now before after : ViewValue) → before ≡ now → after.generation ≡ before.generation
    → after.snapshots ≡ before.snapshots → ((q : Member) → Flags before.flags after.flags q)
    → OnErr r ((views : List ViewEvent) → IsViewAfter views now → IsViewAfter views after)
still r now before after is g s flags =
    on_err r (λ (views : List ViewEvent) h. roomier views before after (subst (λ v. IsViewAfter views v) (sym is) h) g s flags)

pub returns-in_err-members-clause-refusals : goal.returns-in_err-members-clause-refusals
returns-in_err-members-clause-refusals g c = record {
  view_err = still _ c.args.self.now _ _ c.self.view_is refl
      (ap (λ (ss : List ViewSnapshot). snapshot_of c.self.inside.current ∷ map snapshot_of ss) c.reserve.ensures.items)
      c.prepared.ensures.flags;
  registry_err = search rules;
  exhausted = search rules;
  last = search rules;
  registry = search rules;
  refused = search rules;
  id = search rules;
  one_registry = search rules;
}

pub returns-in_err-cells-clause-refusals : goal.returns-in_err-cells-clause-refusals
returns-in_err-cells-clause-refusals g c = record {
  view_err = still _ c.args.self.now _ _ c.self.view_is refl
      (ap (λ (ss : List ViewSnapshot). snapshot_of c.self.inside.current ∷ map snapshot_of ss) c.reserve.ensures.items)
      c.prepared.ensures.flags;
  registry_err = search rules;
  exhausted = search rules;
  last = search rules;
  registry = search rules;
  refused = search rules;
  id = search rules;
  one_registry = search rules;
}

pub returns-clause-some : goal.returns-clause-some
returns-clause-some g c = (
  c.in_ok-cells.cells.entries,
  λ views h.
      let before = subst (λ v. IsViewAfter views v) (sym c.self.view_is) h in
      let prepared = roomier views _ (record {
        id = c.self.inside.id;
        generation = c.self.inside.current.generation;
        snapshots = snapshot_of c.self.inside.current ∷ map snapshot_of c.reserve.new.self.items;
        flags = c.prepared.new.flags.entries;
      })
      before refl (ap (λ (ss : List ViewSnapshot). snapshot_of c.self.inside.current ∷ map snapshot_of ss) c.reserve.ensures.items)
      c.prepared.ensures.flags in
      let n : ℕ = c.in-Some.next in
      let next : n ≡ c.self.inside.current.generation + 1 = c.in-Some.ensures.1 in
      let new : ViewSnapshot = record {
        generation = n;
        members = c.in_ok-members.members;
        cells = c.in_ok-cells.cells.entries;
        holds = 0;
      } in
      let after : c.replace.new.dest ≡ new = c.replace.ensures.after
      ∙ ap (λ (cs : List (Member × ℕ)). record new { cells = cs }) c.new-hinted.ensures in
      let items : c.push_reserved.new.self.items ≡ c.reserve.new.self.items ++ c.self.inside.current ∷ [] = c.push_reserved.ensures.items
      ∙ ap (λ (s : ViewSnapshot). c.reserve.new.self.items ++ s ∷ []) c.replace.ensures.value in
      let members : (arc_value c.in_ok-members.members).keys ≡ c.args.members.keys = c.in_ok-members.ensures.ok.0 in
      let others : List SnapshotValue = by_age (snapshot_of c.self.inside.current ∷ map snapshot_of c.reserve.new.self.items) in
      shown views _ c.prune.new.self c.args.members.keys _ prepared
      c.in_ok-members.ensures.all
      (c.prune.ensures.generation ∙ ap (λ (s : ViewSnapshot). s.generation) after ∙ next)
      (c.prune.ensures.snapshots
      ∙ ap (λ (s : ViewSnapshot). living s.generation (snapshot_of s ∷ map snapshot_of c.push_reserved.new.self.items)) after
      ∙ ap (λ (ss : List ViewSnapshot). living n (snapshot_of new ∷ map snapshot_of ss)) items
      ∙ shown_snapshots n new c.self.inside.current c.reserve.new.self.items refl
      ∙ ap (λ ms. new_snapshot n ms c.in_ok-cells.cells.entries ∷ living n others) members
      ∙ ap (λ m. new_snapshot m c.args.members.keys c.in_ok-cells.cells.entries ∷ living m others) next)
      c.prune.ensures.flags,
)

pub returns-clause-view : goal.returns-clause-view
unfolding returns-clause-some
returns-clause-view g c = λ key_of views events h r.
    let cells : c.in_ok-cells.cells.entries ≡ shown_cells key_of c.args.self.now.id c.args.members.keys events =
    c.in_ok-cells.ensures.cells key_of events r
    ∙ ap (λ ms. shown_cells key_of c.self.inside.id ms events) c.in_ok-members.ensures.ok.1
    ∙ ap (λ (v : ViewValue). shown_cells key_of v.id c.args.members.keys events) c.self.view_is in
    subst (λ cs. IsViewAfter (Shown c.args.members.keys cs ∷ views) c.prune.new.self) cells ((returns-clause-some g c).1 views h)

pub returns-clause-registry : goal.returns-clause-registry
returns-clause-registry g c = λ key_of views events h r.
    let viewed = returns-clause-view g c key_of views events h r in
    let id : c.self.inside.id ≡ c.args.self.now.id = ap (λ (v : ViewValue). v.id) c.self.view_is in
    let last : c.self.inside.current.generation ≡ generation_after views = ap (λ (v : ViewValue). v.generation) c.self.view_is
    ∙ h.generation in
    let next : c.in-Some.next ≡ generation_after views + 1 = c.in-Some.ensures.1 ∙ ap (λ m. m + 1) last in
    let after : List Event = after_show c.args.self.now.id (generation_after views + 1) c.args.members.keys events in
    let held : IsRegistryAfter g.R.KeyRule.gives key_of after c.show_view.new.self =
    subst (λ i. IsRegistryAfter g.R.KeyRule.gives key_of (after_show i (generation_after views + 1) c.args.members.keys events)
    c.show_view.new.self) id
    (subst (λ n. IsRegistryAfter g.R.KeyRule.gives key_of (after_show c.self.inside.id n c.args.members.keys events) c.show_view.new.self)
    next
    (subst (λ ms. IsRegistryAfter g.R.KeyRule.gives key_of (after_show c.self.inside.id c.in-Some.next ms events) c.show_view.new.self)
    c.in_ok-members.ensures.ok.1
    (c.in_ok-cells.ensures.ok key_of events r))) in
    let lived : c.lives.result ≡ lives (generation_after views)
    (snapshots_after (view_changed key_of c.args.self.now.id c.args.members.keys events views)) =
    c.lives.ensures ∙ ap (λ ss. lives c.self.inside.current.generation ss) viewed.snapshots
    ∙ ap (λ m. lives m (snapshots_after (view_changed key_of c.args.self.now.id c.args.members.keys events views))) last in
    let Left : Bool → Type 0 = λ b. IsRegistryAfter g.R.KeyRule.gives key_of
    (if b then after else Released c.args.self.now.id (generation_after views) ∷ after) c.if-not-lives.registry in
    subst Left lived (elim c.if-not-lives.branch [
      | then-not-lives w ↦ let no : c.lives.result ≡ false = search rules in
          let same : c.self-2.inside.id ≡ c.args.self.now.id = ap (λ (v : ViewValue). v.id) c.self-2.view_is ∙ c.prune.ensures.id ∙ id in
          subst Left (sym no) (rw w.registry-is
          (subst (λ m. IsRegistryAfter g.R.KeyRule.gives key_of (Released c.args.self.now.id m ∷ after) w.release.new.self) last
          (subst (λ i. IsRegistryAfter g.R.KeyRule.gives key_of (Released i c.self.inside.current.generation ∷ after) w.release.new.self)
          same
          (w.release.ensures.after key_of after held))))
      | else-not-lives w ↦ let yes : c.lives.result ≡ true = search rules in subst Left (sym yes) (rw w.registry-is held)
    ])

pub returns-clause-next : goal.returns-clause-next
returns-clause-next g c =
    c.prune.ensures.generation ∙ ap (λ (s : ViewSnapshot). s.generation) c.replace.ensures.after ∙ c.in-Some.ensures.1
    ∙ ap (λ (v : ViewValue). v.generation + 1) c.self.view_is

pub invariant_of-self-2 : goal.invariant_of-self-2
invariant_of-self-2 g c =
    let current : ViewSnapshot = c.self.inside.current in
    let new : ViewSnapshot = record {
      generation = c.in-Some.next;
      members = c.in_ok-members.members;
      cells = c.in_ok-cells.cells.entries;
      holds = 0;
    } in
    let after : c.replace.new.dest ≡ new = c.replace.ensures.after
    ∙ ap (λ (cs : List (Member × ℕ)). record new { cells = cs }) c.new-hinted.ensures in
    let members : (arc_value c.in_ok-members.members).keys ≡ c.args.members.keys = c.in_ok-members.ensures.ok.0 in
    let items : c.push_reserved.new.self.items ≡ c.self.inside.earlier.items ++ current ∷ [] = c.push_reserved.ensures.items
    ∙ ap (λ (s : ViewSnapshot). c.reserve.new.self.items ++ s ∷ []) c.replace.ensures.value
    ∙ ap (λ (ss : List ViewSnapshot). ss ++ current ∷ []) c.reserve.ensures.items in (
      flags-more c.self.inside.disabled c.self.inside.flags.entries _ c.self.invariant.0 c.prepared.ensures.flags,
      (
        subst (λ (s : ViewSnapshot). HasOwnCells (snapshot_of s).members (snapshot_of s).cells) (sym after)
            (subst (λ (ms : List Member). HasOwnCells ms c.in_ok-cells.cells.entries) (c.in_ok-members.ensures.ok.1
            ∙ sym members) c.in_ok-cells.ensures.own),
        subst (λ (ss : List ViewSnapshot). HaveOwnCells (map snapshot_of ss)) (sym items)
            (own-behind c.self.inside.earlier.items current c.self.invariant.1.1 c.self.invariant.1.0),
      ),
    )
