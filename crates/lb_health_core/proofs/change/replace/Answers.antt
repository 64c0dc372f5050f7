use Rattle.std.proofs.Common.{◌≡◌, ◌≤◌, ◌<◌, ◌^◌, List, ◌∷◌, map, length, not, refl, sym, subst, ◌∙◌, rules, arith, get_or-set_same}
use Rattle.std.proofs.lemmas.Fn.{filter_same}
use Rattle.std.proofs.lemmas.Option.{slice_get_read}
use Rattle.std.specs.List.{slice_get}
use Rattle.std.specs.Option.{IsSomeAnd}
use Rattle.lb_select_base.specs.Backends.{Member, same_member}
use Rattle.lb_select_base.specs.declared.refusal.Refusal.TheVariants.{NumbersExhausted}
use Rattle.lb_health_core.specs.declared.targets.View.{View}
use Rattle.lb_health_core.specs.CellEvents.{CellEvent, Changed, given_after}
use Rattle.lb_health_core.specs.Internal.Changing.{left_of}
use Rattle.lb_health_core.specs.Internal.Replacing.{IsPrepared}
use Rattle.lb_health_core.specs.Keys.{IsRuleOf}
use Rattle.lb_health_core.specs.RegistryEvents.{cell_events, with_members}
use Rattle.lb_health_core.specs.Table.{table_value}
use Rattle.lb_health_core.specs.Targets.{view_value, live, target_keys}
use Rattle.lb_health_core.proofs.MarkLemmas.{left_is}
use Rattle.lb_health_core.proofs.TableLemmas.{some_from}
use Rattle.lb_health_core.proofs.StateLemmas.{at_found, set_found, later_is, replaced, put_back, same_refusal}
use Rattle.lb_health_core.proofs.change.replace.Goals as goal

pub returns-in-Ok-clause-ok : goal.returns-in-Ok-clause-ok
returns-in-Ok-clause-ok g c =
    λ key_of events id rule found sorted fits state.
    let keyed
    = left_is (IsRuleOf g.R.KeyRule.gives c.args.rule.now) key_of events c.args.views.now.items c.deref.result.now c.in_ok-marked.marked
    c.as_deref.result
    rule state.listed c.deref.ensures.value c.in_ok-marked.ensures.ok c.as_deref.ensures.cases in
    let x = c.index_mut.result.now in
    let members = c.args.members.keys in
    let y : View = record { id = x.id; marked = x.marked; members = c.swap.new.x } in
    let at = at_found _ c.args.views.now.items c.args.place x found c.index_mut.ensures.value in
    let exchanged : view_value y ≡ with_members members (view_value x)
    = λ i. record { id = x.id; marked = x.marked; members = (c.swap.ensures.x_after i).keys } in
    let Has : List View → Type 0 = λ vs. IsSomeAnd (slice_get vs c.args.place) (λ v. v.members.keys ≡ members) in
    let has : Has c.deref-2.result.now
    = subst Has (sym c.deref-2.ensures.value)
    (some_from (λ (v : View). v.members.keys ≡ members) _ y (set_found c.args.views.now.items c.args.place x y at)
    (λ i. (c.swap.ensures.x_after i).keys)) in
    let Prepared : List View → Type 0
    = λ vs. IsPrepared key_of (cell_events key_of events) (Changed (target_keys key_of (live (map view_value vs))) ∷ Changed
    (left_of c.as_deref.result (cell_events key_of events)) ∷ cell_events key_of events)
    members c.in-Ok.numbering c.in-Ok.shown (table_value c.prepare.new.table) in
    replaced key_of events id c.args.place members (left_of c.as_deref.result (cell_events key_of events)) c.args.views.now.items
    c.retain.new.self.items x y (table_value c.args.table.now)
    (table_value c.prepare.new.table) (table_value c.commit.new.self) c.in-Ok.numbering c.in-Ok.shown state found at exchanged
    keyed
    (filter_same _ (λ (v : View). not v.marked) _ (λ x b f' t. search rules) _ _ c.retain.ensures.filtered)
    (subst Prepared c.deref-2.ensures.value (c.in-Ok.ensures.ok key_of (cell_events key_of events) members rule has state.cells))
    c.commit.ensures.after c.commit.ensures.pruned sorted fits

pub returns-clause-err : goal.returns-clause-err
returns-clause-err g c =
    λ key_of events state.
    let items = c.args.views.now.items in
    let place = c.args.place in
    let x = c.index_mut.result.now in
    let y : View = record { id = x.id; marked = x.marked; members = c.swap.new.x } in
    let w = c.index_mut-in-Err.result.now in
    let z : View = record { id = w.id; marked = w.marked; members = c.swap-in-Err.new.x } in
    let within : place < length items = omega (arith, c.requires, c.args.views.now.ok.0) in
    let there : w ≡ y = c.index_mut-in-Err.ensures.value ∙ get_or-set_same items place y w within in
    let same : view_value z ≡ view_value x
    = λ i. record {
      id = (there i).id;
      marked = (there i).marked;
      members = ((c.swap-in-Err.ensures.x_after ∙ c.swap.ensures.y_after) i).keys;
    } in
    record {
      sets = state.sets;
      fits = state.fits;
      listed = put_back items place x y z (slice_get_read items (length items) place x refl within c.index_mut.ensures.value) same
          ∙ state.listed;
      cells = c.prune.ensures.after (cell_events key_of events) (c.in-Err.ensures.err (cell_events key_of events) state.cells);
      pruned = c.prune.ensures.pruned (cell_events key_of events) (c.in-Err.ensures.err (cell_events key_of events) state.cells);
    }

pub returns-clause-exhausted : goal.returns-clause-exhausted
returns-clause-exhausted g c =
    λ key_of events id rule found state e.
    let keyed
    = left_is (IsRuleOf g.R.KeyRule.gives c.args.rule.now) key_of events c.args.views.now.items c.deref.result.now c.in_ok-marked.marked
    c.as_deref.result
    rule state.listed c.deref.ensures.value c.in_ok-marked.ensures.ok c.as_deref.ensures.cases in
    let x = c.index_mut.result.now in
    let y : View = record { id = x.id; marked = x.marked; members = c.swap.new.x } in
    let at = at_found _ c.args.views.now.items c.args.place x found c.index_mut.ensures.value in
    let exchanged : view_value y ≡ with_members c.args.members.keys (view_value x)
    = λ i. record { id = x.id; marked = x.marked; members = (c.swap.ensures.x_after i).keys } in
    let Many : List (CellEvent Member) → Type 0 = λ es. 2 ^ 64 ≤ given_after same_member es in
    let ManyOf : List View → Type 0
    = λ vs. 2 ^ 64 ≤ given_after same_member (Changed (target_keys key_of (live (map view_value vs))) ∷ Changed
    (left_of c.as_deref.result (cell_events key_of events)) ∷ cell_events key_of events) in
    subst Many
    (later_is key_of events id c.args.place c.args.members.keys (left_of c.as_deref.result (cell_events key_of events))
    c.args.views.now.items x y (table_value c.args.table.now) state found at exchanged
    keyed)
    (subst ManyOf c.deref-2.ensures.value (c.in-Err.ensures.exhausted key_of (cell_events key_of events) rule state.cells
    (same_refusal c.in-Err.refusal NumbersExhausted e)))
