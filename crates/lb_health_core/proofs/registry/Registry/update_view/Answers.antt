use Rattle.std.proofs.Common.{◌≡◌, ◌≤◌, ◌^◌, true, false, List, map, position, Err, refl, sym, ap, subst, ◌∙◌, rules, true≢false, arith}
use Rattle.std.proofs.Common.{◌∷◌}
use Rattle.lb_select_base.specs.Backends.{Member}
use Rattle.lb_select_base.specs.declared.refusal.Refusal.TheVariants.{NoSuch, NumbersExhausted}
use Rattle.lb_health_core.specs.declared.targets.View.{View}
use Rattle.lb_health_core.specs.Registry.{RegistryValue, IsRegistryAfter}
use Rattle.lb_health_core.specs.RegistryEvents.{Event, Applied, Updated, cells_given, is_view, has_view}
use Rattle.lb_health_core.specs.Table.{table_value}
use Rattle.lb_health_core.specs.Targets.{view_value}
use Rattle.lb_health_core.proofs.ChangeLemmas.{missing_view, found_view}
use Rattle.lb_health_core.proofs.StateLemmas.{seen, lacks_told, left_numbers, updates_as, not_refused, growth_not_such}
use Rattle.lb_health_core.proofs.TableLemmas.{refused_for}
use Rattle.lb_health_core.proofs.registry.Registry.update_view.Goals as goal

pub returns-in_default-clause-updated : goal.returns-in_default-clause-updated
returns-in_default-clause-updated g c = record {
  ok = tt;
  err = search rules;
  unknown =
      λ key_of events r.
      let now = seen g.R.KeyRule.gives key_of events _ _ c.self.view_is r in
      let none = ap (λ (vs : List View). position (λ v. is_view c.args.id (view_value v)) vs) (sym c.deref.ensures.value)
      ∙ sym c.place_of.ensures ∙ c.in_default.is in
      (λ e. ap (has_view c.args.id) (sym now.state.listed) ∙ missing_view view_value c.args.id c.self.inside.views.items none, λ f. refl);
  exhausted =
      λ key_of events r has.
      let now = seen g.R.KeyRule.gives key_of events _ _ c.self.view_is r in
      let none = ap (λ (vs : List View). position (λ v. is_view c.args.id (view_value v)) vs) (sym c.deref.ensures.value)
      ∙ sym c.place_of.ensures ∙ c.in_default.is in
      absurd (true≢false (sym has ∙ ap (has_view c.args.id) (sym now.state.listed)
      ∙ missing_view view_value c.args.id c.self.inside.views.items none));
}

pub returns-then-is_same-clause-updated : goal.returns-then-is_same-clause-updated
returns-then-is_same-clause-updated g c = record {
  ok =
      λ key_of events r.
      let now = seen g.R.KeyRule.gives key_of events _ _ c.self.view_is r in
      let found = ap (λ (vs : List View). position (λ v. is_view c.args.id (view_value v)) vs) (sym c.deref.ensures.value)
      ∙ sym c.place_of.ensures ∙ c.in-Some.is in
      let stays = updates_as true c.args.id c.in-Some.place c.args.members.keys events c.self.inside.views.items c.index.result.now
      now.state.listed found c.index.ensures
      (sym c.is_same.ensures ∙ c.if-is_same.true) in
      let After : List Event → Type 0 = λ es. IsRegistryAfter g.R.KeyRule.gives key_of es c.args.self.now in
      subst After (sym stays) r;
  err = tt;
  unknown =
      λ key_of events r.
      let now = seen g.R.KeyRule.gives key_of events _ _ c.self.view_is r in
      let found = ap (λ (vs : List View). position (λ v. is_view c.args.id (view_value v)) vs) (sym c.deref.ensures.value)
      ∙ sym c.place_of.ensures ∙ c.in-Some.is in
      let has = ap (has_view c.args.id) (sym now.state.listed)
      ∙ found_view view_value c.args.id c.self.inside.views.items c.in-Some.place found in
      (λ e. absurd (not_refused _ _ e), λ f. absurd (true≢false (sym has ∙ f)));
  exhausted =
      λ key_of events r has.
      let now = seen g.R.KeyRule.gives key_of events _ _ c.self.view_is r in
      let found = ap (λ (vs : List View). position (λ v. is_view c.args.id (view_value v)) vs) (sym c.deref.ensures.value)
      ∙ sym c.place_of.ensures ∙ c.in-Some.is in
      let stays = updates_as true c.args.id c.in-Some.place c.args.members.keys events c.self.inside.views.items c.index.result.now
      now.state.listed found c.index.ensures
      (sym c.is_same.ensures ∙ c.if-is_same.true) in
      let Many : List Event → Type 0 = λ es. 2 ^ 64 ≤ cells_given key_of es in
      let few : 2 ^ 64 ≤ cells_given key_of events → ⊥ = λ l. omega (arith, l, now.state.fits) in
      (λ e. absurd (not_refused _ _ e), λ l. absurd (few (subst Many stays l)));
}

pub returns-then-lacks_numbers-clause-updated : goal.returns-then-lacks_numbers-clause-updated
returns-then-lacks_numbers-clause-updated g c = record {
  ok = tt;
  err = search rules;
  unknown =
      λ key_of events r.
      let now = seen g.R.KeyRule.gives key_of events _ _ c.self.view_is r in
      let found = ap (λ (vs : List View). position (λ v. is_view c.args.id (view_value v)) vs) (sym c.deref.ensures.value)
      ∙ sym c.place_of.ensures ∙ c.in-Some.is in
      let has = ap (has_view c.args.id) (sym now.state.listed)
      ∙ found_view view_value c.args.id c.self.inside.views.items c.in-Some.place found in
      (λ e. absurd (cc), λ f. absurd (true≢false (sym has ∙ f)));
  exhausted =
      λ key_of events r has.
      let now = seen g.R.KeyRule.gives key_of events _ _ c.self.view_is r in
      let found = ap (λ (vs : List View). position (λ v. is_view c.args.id (view_value v)) vs) (sym c.deref.ensures.value)
      ∙ sym c.place_of.ensures ∙ c.in-Some.is in
      let moves = updates_as false c.args.id c.in-Some.place c.args.members.keys events c.self.inside.views.items c.index.result.now
      now.state.listed found c.index.ensures
      (sym c.is_same.ensures ∙ c.if-is_same.false) in
      let Many : List Event → Type 0 = λ es. 2 ^ 64 ≤ cells_given key_of es in
      let told = lacks_told key_of events c.args.id c.args.members.keys c.self.inside.views.items _ (table_value c.self.inside.table) _
      now.state c.lacks_numbers.ensures.ordered has
      c.deref-2.ensures.value (c.lacks_numbers.ensures.lacks key_of c.args.id now.rule) in
      (λ e. (subst Many (sym moves) (told.0 c.if-lacks_numbers.true)), λ l. refl);
}

pub returns-in_err-replace-clause-updated : goal.returns-in_err-replace-clause-updated
returns-in_err-replace-clause-updated g c = record {
  ok = search rules;
  err =
      let inside = c.self.inside in
      let stays :
      (key_of : Member → Member) (events : List Event) → IsRegistryAfter g.R.KeyRule.gives key_of events c.args.self.now
      → IsRegistryAfter g.R.KeyRule.gives key_of events
      (record {
        id = inside.id;
        rule = inside.rule;
        views = map view_value c.replace.new.views.items;
        registered = inside.registered;
        table = table_value c.replace.new.table;
      })
      = λ key_of events r.
      let now = seen g.R.KeyRule.gives key_of events _ _ c.self.view_is r in
      record {
        rule = now.rule;
        registered = now.registered;
        state = c.in_err-replace.ensures.err key_of events now.state;
      } in
      refused_for c.from_residual.result stays;
  unknown =
      λ key_of events r.
      let now = seen g.R.KeyRule.gives key_of events _ _ c.self.view_is r in
      let found = ap (λ (vs : List View). position (λ v. is_view c.args.id (view_value v)) vs) (sym c.deref.ensures.value)
      ∙ sym c.place_of.ensures ∙ c.in-Some.is in
      let has = ap (has_view c.args.id) (sym now.state.listed)
      ∙ found_view view_value c.args.id c.self.inside.views.items c.in-Some.place found in (
        λ e. let is : c.in_err-replace.field-0.0 ≡ NoSuch = search rules in absurd (growth_not_such _ c.in_err-replace.ensures.refused is),
        λ f. absurd (true≢false (sym has ∙ f)),
      );
  exhausted =
      λ key_of events r has.
      let now = seen g.R.KeyRule.gives key_of events _ _ c.self.view_is r in
      let found = ap (λ (vs : List View). position (λ v. is_view c.args.id (view_value v)) vs) (sym c.deref.ensures.value)
      ∙ sym c.place_of.ensures ∙ c.in-Some.is in
      let moves = updates_as false c.args.id c.in-Some.place c.args.members.keys events c.self.inside.views.items c.index.result.now
      now.state.listed found c.index.ensures
      (sym c.is_same.ensures ∙ c.if-is_same.false) in
      let Many : List Event → Type 0 = λ es. 2 ^ 64 ≤ cells_given key_of es in
      let told = lacks_told key_of events c.args.id c.args.members.keys c.self.inside.views.items _ (table_value c.self.inside.table) _
      now.state c.lacks_numbers.ensures.ordered has
      c.deref-2.ensures.value (c.lacks_numbers.ensures.lacks key_of c.args.id now.rule) in
      let few : 2 ^ 64 ≤ cells_given key_of (Updated c.args.id c.args.members.keys ∷ Applied ∷ events) → ⊥
      = λ l. true≢false (sym (told.1 l) ∙ c.if-lacks_numbers.false) in (
        λ e. let is : c.in_err-replace.field-0.0 ≡ NumbersExhausted = search rules in
            absurd (few (c.in_err-replace.ensures.exhausted key_of events c.args.id now.rule found now.state (ap Err is))),
        λ l. absurd (few (subst Many moves l)),
      );
}

pub returns-clause-updated : goal.returns-clause-updated
returns-clause-updated g c = record {
  ok =
      λ key_of events r.
      let inside = c.self.inside in
      let now = seen g.R.KeyRule.gives key_of events _ _ c.self.view_is r in
      let found = ap (λ (vs : List View). position (λ v. is_view c.args.id (view_value v)) vs) (sym c.deref.ensures.value)
      ∙ sym c.place_of.ensures ∙ c.in-Some.is in
      let moves = updates_as false c.args.id c.in-Some.place c.args.members.keys events inside.views.items c.index.result.now
      now.state.listed found c.index.ensures
      (sym c.is_same.ensures ∙ c.if-is_same.false) in
      let has = ap (has_view c.args.id) (sym now.state.listed)
      ∙ found_view view_value c.args.id c.self.inside.views.items c.in-Some.place found in
      let told = lacks_told key_of events c.args.id c.args.members.keys c.self.inside.views.items _ (table_value c.self.inside.table) _
      now.state c.lacks_numbers.ensures.ordered has
      c.deref-2.ensures.value (c.lacks_numbers.ensures.lacks key_of c.args.id now.rule) in
      let after : RegistryValue g.row.R.Denot
      = record {
        id = inside.id;
        rule = inside.rule;
        views = map view_value c.replace.new.views.items;
        registered = inside.registered;
        table = table_value c.replace.new.table;
      } in
      let After : List Event → Type 0 = λ es. IsRegistryAfter g.R.KeyRule.gives key_of es after in
      subst After (sym moves) (record {
        rule = now.rule;
        registered = now.registered;
        state = (c.in_ok-replace.ensures.ok key_of events c.args.id now.rule found c.lacks_numbers.ensures.ordered
            (left_numbers c.lacks_numbers.result _ c.if-lacks_numbers.false told) now.state).state;
      });
  err = tt;
  unknown =
      λ key_of events r.
      let now = seen g.R.KeyRule.gives key_of events _ _ c.self.view_is r in
      let found = ap (λ (vs : List View). position (λ v. is_view c.args.id (view_value v)) vs) (sym c.deref.ensures.value)
      ∙ sym c.place_of.ensures ∙ c.in-Some.is in
      let has = ap (has_view c.args.id) (sym now.state.listed)
      ∙ found_view view_value c.args.id c.self.inside.views.items c.in-Some.place found in
      (λ e. absurd (not_refused _ _ e), λ f. absurd (true≢false (sym has ∙ f)));
  exhausted =
      λ key_of events r has.
      let now = seen g.R.KeyRule.gives key_of events _ _ c.self.view_is r in
      let found = ap (λ (vs : List View). position (λ v. is_view c.args.id (view_value v)) vs) (sym c.deref.ensures.value)
      ∙ sym c.place_of.ensures ∙ c.in-Some.is in
      let moves = updates_as false c.args.id c.in-Some.place c.args.members.keys events c.self.inside.views.items c.index.result.now
      now.state.listed found c.index.ensures
      (sym c.is_same.ensures ∙ c.if-is_same.false) in
      let Many : List Event → Type 0 = λ es. 2 ^ 64 ≤ cells_given key_of es in
      let told = lacks_told key_of events c.args.id c.args.members.keys c.self.inside.views.items _ (table_value c.self.inside.table) _
      now.state c.lacks_numbers.ensures.ordered has
      c.deref-2.ensures.value (c.lacks_numbers.ensures.lacks key_of c.args.id now.rule) in
      (λ e. absurd (not_refused _ _ e), λ l. absurd (true≢false (sym (told.1 (subst Many moves l)) ∙ c.if-lacks_numbers.false)));
}
