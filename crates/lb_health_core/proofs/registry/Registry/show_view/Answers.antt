use Rattle.std.proofs.Common.{◌≡◌, List, map, position, Err, refl, sym, ap, ◌∙◌, rules, true≢false, ◌∷◌, ◌≤◌, ◌^◌}
use Rattle.lb_select_base.specs.Backends.{Member}
use Rattle.lb_select_base.specs.declared.refusal.Refusal.TheVariants.{NoSuch, OutOfMemory, NumbersExhausted}
use Rattle.lb_health_core.specs.declared.targets.View.{View}
use Rattle.lb_health_core.specs.Registry.{IsRegistryAfter, IsStateAfter}
use Rattle.lb_health_core.specs.RegistryEvents.{Event, Applied, Updated, cells_given, is_view, has_view}
use Rattle.lb_health_core.specs.Table.{hold_of, table_value}
use Rattle.lb_health_core.specs.Targets.{view_value}
use Rattle.lb_health_core.proofs.ChangeLemmas.{missing_view, found_view}
use Rattle.lb_health_core.proofs.StateLemmas.{seen, lacks_told, left_numbers, roomier, shows, not_refused, growth_not_such}
use Rattle.lb_health_core.proofs.TableLemmas.{refused_for}
use Rattle.lb_health_core.proofs.registry.Registry.show_view.Goals as goal

pub returns-in_default-clause-unknown : goal.returns-in_default-clause-unknown
returns-in_default-clause-unknown g c =
    λ key_of events r.
    let now = seen g.R.KeyRule.gives key_of events _ _ c.self.view_is r in
    let none = ap (λ (vs : List View). position (λ v. is_view c.args.id (view_value v)) vs) (sym c.deref.ensures.value)
    ∙ sym c.place_of.ensures ∙ c.in_default.is in
    (λ e. ap (has_view c.args.id) (sym now.state.listed) ∙ missing_view view_value c.args.id c.self.inside.views.items none, λ f. refl)

pub returns-in_err-reserve-clause-unknown : goal.returns-in_err-reserve-clause-unknown
returns-in_err-reserve-clause-unknown g c =
    λ key_of events r.
    let now = seen g.R.KeyRule.gives key_of events _ _ c.self.view_is r in
    let found = ap (λ (vs : List View). position (λ v. is_view c.args.id (view_value v)) vs) (sym c.deref.ensures.value)
    ∙ sym c.place_of.ensures ∙ c.in-Some.is in
    let has = ap (has_view c.args.id) (sym now.state.listed)
    ∙ found_view view_value c.args.id c.self.inside.views.items c.in-Some.place found in
    (λ e. let no : OutOfMemory ≡ NoSuch = search rules in absurd (cc), λ f. absurd (true≢false (sym has ∙ f)))

pub returns-in_err-shown-clause-err : goal.returns-in_err-shown-clause-err
returns-in_err-shown-clause-err g c =
    let inside = c.self.inside in
    let stays :
    (key_of : Member → Member) (events : List Event) → IsRegistryAfter g.R.KeyRule.gives key_of events c.args.self.now
    → IsRegistryAfter g.R.KeyRule.gives key_of events
    (record {
      id = inside.id;
      rule = inside.rule;
      views = map view_value c.replace.new.views.items;
      registered = inside.registered;
      table = table_value c.replace.new.table;
    })
    = λ key_of events r.
    let now = seen g.R.KeyRule.gives key_of events _ _ c.self.view_is r in
    record {
      rule = now.rule;
      registered = now.registered;
      state = c.in_err-shown.ensures.err key_of events (roomier key_of events (map view_value inside.views.items) (table_value inside.table)
          (map hold_of c.reserve.new.self.items) (ap (map hold_of) c.in_ok-reserve.ensures.items) now.state);
    } in
    refused_for c.from_residual-in_err-shown.result stays

pub returns-in_err-shown-clause-unknown : goal.returns-in_err-shown-clause-unknown
returns-in_err-shown-clause-unknown g c =
    λ key_of events r.
    let now = seen g.R.KeyRule.gives key_of events _ _ c.self.view_is r in
    let found = ap (λ (vs : List View). position (λ v. is_view c.args.id (view_value v)) vs) (sym c.deref.ensures.value)
    ∙ sym c.place_of.ensures ∙ c.in-Some.is in
    let has = ap (has_view c.args.id) (sym now.state.listed)
    ∙ found_view view_value c.args.id c.self.inside.views.items c.in-Some.place found in (
      λ e. let is : c.in_err-shown.field-0.0 ≡ NoSuch = search rules in absurd (growth_not_such _ c.in_err-shown.ensures.refused is),
      λ f. absurd (true≢false (sym has ∙ f)),
    )

pub returns-clause-ok : goal.returns-clause-ok
returns-clause-ok g c =
    λ key_of events r.
    let inside = c.self.inside in
    let now = seen g.R.KeyRule.gives key_of events _ _ c.self.view_is r in
    let found = ap (λ (vs : List View). position (λ v. is_view c.args.id (view_value v)) vs) (sym c.deref.ensures.value)
    ∙ sym c.place_of.ensures ∙ c.in-Some.is in
    let has = ap (has_view c.args.id) (sym now.state.listed) ∙ found_view view_value c.args.id inside.views.items c.in-Some.place found in
    let told = lacks_told key_of events c.args.id c.args.members.keys c.self.inside.views.items _ (table_value c.self.inside.table) _
    now.state c.lacks_numbers.ensures.ordered has
    c.deref-2.ensures.value (c.lacks_numbers.ensures.lacks key_of c.args.id now.rule) in
    let state : IsStateAfter key_of events (map view_value inside.views.items)
    (record (table_value inside.table) { held = map hold_of c.reserve.new.self.items })
    = roomier key_of events (map view_value inside.views.items) (table_value inside.table) (map hold_of c.reserve.new.self.items)
    (ap (map hold_of) c.in_ok-reserve.ensures.items) now.state in
    record {
      rule = now.rule;
      registered = now.registered;
      state =
          shows key_of events c.args.id c.args.generation c.args.members.keys c.in_ok-shown.shown (map view_value c.replace.new.views.items)
          (table_value c.replace.new.table)
          (table_value c.hold.new.self) (c.in_ok-shown.ensures.ok key_of events c.args.id now.rule found c.lacks_numbers.ensures.ordered
          (left_numbers c.lacks_numbers.result _ c.if-lacks_numbers.false told) state) has c.hold.ensures.after c.hold.ensures.pruned;
    }

pub returns-clause-cells : goal.returns-clause-cells
returns-clause-cells g c =
    λ key_of events r.
    let inside = c.self.inside in
    let now = seen g.R.KeyRule.gives key_of events _ _ c.self.view_is r in
    let found = ap (λ (vs : List View). position (λ v. is_view c.args.id (view_value v)) vs) (sym c.deref.ensures.value)
    ∙ sym c.place_of.ensures ∙ c.in-Some.is in
    let has = ap (has_view c.args.id) (sym now.state.listed)
    ∙ found_view view_value c.args.id c.self.inside.views.items c.in-Some.place found in
    let told = lacks_told key_of events c.args.id c.args.members.keys c.self.inside.views.items _ (table_value c.self.inside.table) _
    now.state c.lacks_numbers.ensures.ordered has
    c.deref-2.ensures.value (c.lacks_numbers.ensures.lacks key_of c.args.id now.rule) in
    (c.in_ok-shown.ensures.ok key_of events c.args.id now.rule found c.lacks_numbers.ensures.ordered
    (left_numbers c.lacks_numbers.result _ c.if-lacks_numbers.false told) (roomier key_of events (map view_value inside.views.items)
    (table_value inside.table) (map hold_of c.reserve.new.self.items) (ap (map hold_of) c.in_ok-reserve.ensures.items)
    now.state)).cells.pairs

pub returns-clause-unknown : goal.returns-clause-unknown
returns-clause-unknown g c =
    λ key_of events r.
    let now = seen g.R.KeyRule.gives key_of events _ _ c.self.view_is r in
    let found = ap (λ (vs : List View). position (λ v. is_view c.args.id (view_value v)) vs) (sym c.deref.ensures.value)
    ∙ sym c.place_of.ensures ∙ c.in-Some.is in
    let has = ap (has_view c.args.id) (sym now.state.listed)
    ∙ found_view view_value c.args.id c.self.inside.views.items c.in-Some.place found in
    (λ e. absurd (not_refused _ _ e), λ f. absurd (true≢false (sym has ∙ f)))

pub returns-in_default-clause-exhausted : goal.returns-in_default-clause-exhausted
returns-in_default-clause-exhausted g c =
    λ key_of events r has.
    let now = seen g.R.KeyRule.gives key_of events _ _ c.self.view_is r in
    let none = ap (λ (vs : List View). position (λ v. is_view c.args.id (view_value v)) vs) (sym c.deref.ensures.value)
    ∙ sym c.place_of.ensures ∙ c.in_default.is in
    absurd (true≢false (sym has ∙ ap (has_view c.args.id) (sym now.state.listed)
    ∙ missing_view view_value c.args.id c.self.inside.views.items none))

pub returns-then-lacks_numbers-clause-exhausted : goal.returns-then-lacks_numbers-clause-exhausted
returns-then-lacks_numbers-clause-exhausted g c =
    λ key_of events r has.
    let now = seen g.R.KeyRule.gives key_of events _ _ c.self.view_is r in
    let found = ap (λ (vs : List View). position (λ v. is_view c.args.id (view_value v)) vs) (sym c.deref.ensures.value)
    ∙ sym c.place_of.ensures ∙ c.in-Some.is in
    let told = lacks_told key_of events c.args.id c.args.members.keys c.self.inside.views.items _ (table_value c.self.inside.table) _
    now.state c.lacks_numbers.ensures.ordered has
    c.deref-2.ensures.value (c.lacks_numbers.ensures.lacks key_of c.args.id now.rule) in
    (λ e. (told.0 c.if-lacks_numbers.true), λ l. refl)

pub returns-then-lacks_numbers-clause-unknown : goal.returns-then-lacks_numbers-clause-unknown
returns-then-lacks_numbers-clause-unknown g c =
    λ key_of events r.
    let now = seen g.R.KeyRule.gives key_of events _ _ c.self.view_is r in
    let found = ap (λ (vs : List View). position (λ v. is_view c.args.id (view_value v)) vs) (sym c.deref.ensures.value)
    ∙ sym c.place_of.ensures ∙ c.in-Some.is in
    let has = ap (has_view c.args.id) (sym now.state.listed)
    ∙ found_view view_value c.args.id c.self.inside.views.items c.in-Some.place found in
    (λ e. absurd (cc), λ f. absurd (true≢false (sym has ∙ f)))

pub returns-in_err-shown-clause-exhausted : goal.returns-in_err-shown-clause-exhausted
returns-in_err-shown-clause-exhausted g c =
    λ key_of events r has.
    let now = seen g.R.KeyRule.gives key_of events _ _ c.self.view_is r in
    let found = ap (λ (vs : List View). position (λ v. is_view c.args.id (view_value v)) vs) (sym c.deref.ensures.value)
    ∙ sym c.place_of.ensures ∙ c.in-Some.is in
    let told = lacks_told key_of events c.args.id c.args.members.keys c.self.inside.views.items _ (table_value c.self.inside.table) _
    now.state c.lacks_numbers.ensures.ordered has
    c.deref-2.ensures.value (c.lacks_numbers.ensures.lacks key_of c.args.id now.rule) in
    let few : 2 ^ 64 ≤ cells_given key_of (Updated c.args.id c.args.members.keys ∷ Applied ∷ events) → ⊥
    = λ l. true≢false (sym (told.1 l) ∙ c.if-lacks_numbers.false) in (
      λ e. let is : c.in_err-shown.field-0.0 ≡ NumbersExhausted = search rules in
          absurd (few (c.in_err-shown.ensures.exhausted key_of events c.args.id now.rule found
          (roomier key_of events (map view_value c.self.inside.views.items) (table_value c.self.inside.table)
          (map hold_of c.reserve.new.self.items) (ap (map hold_of) c.in_ok-reserve.ensures.items) now.state) (ap Err is))),
      λ l. absurd (few l),
    )

pub returns-clause-exhausted : goal.returns-clause-exhausted
returns-clause-exhausted g c =
    λ key_of events r has.
    let now = seen g.R.KeyRule.gives key_of events _ _ c.self.view_is r in
    let found = ap (λ (vs : List View). position (λ v. is_view c.args.id (view_value v)) vs) (sym c.deref.ensures.value)
    ∙ sym c.place_of.ensures ∙ c.in-Some.is in
    let told = lacks_told key_of events c.args.id c.args.members.keys c.self.inside.views.items _ (table_value c.self.inside.table) _
    now.state c.lacks_numbers.ensures.ordered has
    c.deref-2.ensures.value (c.lacks_numbers.ensures.lacks key_of c.args.id now.rule) in
    (λ e. absurd (not_refused _ _ e), λ l. absurd (true≢false (sym (told.1 l) ∙ c.if-lacks_numbers.false)))

pub returns-in_err-reserve-clause-exhausted : goal.returns-in_err-reserve-clause-exhausted
returns-in_err-reserve-clause-exhausted g c =
    λ key_of events r has.
    let now = seen g.R.KeyRule.gives key_of events _ _ c.self.view_is r in
    let found = ap (λ (vs : List View). position (λ v. is_view c.args.id (view_value v)) vs) (sym c.deref.ensures.value)
    ∙ sym c.place_of.ensures ∙ c.in-Some.is in
    let told = lacks_told key_of events c.args.id c.args.members.keys c.self.inside.views.items _ (table_value c.self.inside.table) _
    now.state c.lacks_numbers.ensures.ordered has
    c.deref-2.ensures.value (c.lacks_numbers.ensures.lacks key_of c.args.id now.rule) in (
      λ e. let no : OutOfMemory ≡ NumbersExhausted = search rules in absurd (cc),
      λ l. absurd (true≢false (sym (told.1 l) ∙ c.if-lacks_numbers.false)),
    )
