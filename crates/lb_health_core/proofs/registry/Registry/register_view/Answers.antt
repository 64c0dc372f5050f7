use Rattle.std.proofs.Common.{◌≡◌, ◌+◌, false, ◌∷◌, map, ap, ◌∙◌, arith, rules}
use Rattle.lb_select_base.specs.declared.refusal.Refusal.TheVariants.{NumbersExhausted}
use Rattle.lb_health_core.specs.declared.targets.View.{View}
use Rattle.lb_health_core.specs.RegistryEvents.{Registered, new_view, registered_after}
use Rattle.lb_health_core.specs.Table.{table_value}
use Rattle.lb_health_core.specs.Targets.{view_value}
use Rattle.lb_health_core.proofs.StateLemmas.{seen, registered, popped, same_refusal, never_lacks}
use Rattle.lb_health_core.proofs.registry.Registry.register_view.Goals as goal

pub returns-in_default-clause-registered : goal.returns-in_default-clause-registered
returns-in_default-clause-registered g c = record {
  ok = tt;
  number = tt;
  err = search rules;
  exhausted = search rules;
}

pub returns-in-Ok-clause-registered : goal.returns-in-Ok-clause-registered
returns-in-Ok-clause-registered g c = record {
  ok = λ key_of events r.
      let inside = c.self.inside in
      let now = seen g.R.KeyRule.gives key_of events _ _ c.self.view_is r in
      let number : c.in-Some.id ≡ registered_after events + 1 = c.in-Some.ensures.1 ∙ ap (λ n. n + 1) now.registered in
      let v : View = record { id = c.in-Some.id; marked = false; members = c.new.result } in
      let new : view_value v ≡ new_view (registered_after events + 1) = λ i. record {
        id = number i;
        marked = false;
        members = c.new.ensures.empty i;
      } in
      let more = registered key_of events inside.views.items c.push.new.self.items v (table_value inside.table) now.state
      c.in_ok-push.ensures.items new in
      record {
        rule = now.rule;
        registered = number;
        state = c.in-Ok.ensures.ok key_of (Registered ∷ events) now.rule more;
      };
  number = λ key_of events r.
      let now = seen g.R.KeyRule.gives key_of events _ _ c.self.view_is r in
      c.in-Some.ensures.1 ∙ ap (λ n. n + 1) now.registered;
  err = tt;
  exhausted = λ key_of events r.
      let now = seen g.R.KeyRule.gives key_of events _ _ c.self.view_is r in
      (λ clash. absurd (cc), λ l. absurd (omega (arith, l, c.in-Some.ensures.0, now.registered)));
}

pub returns-in-Err-clause-registered : goal.returns-in-Err-clause-registered
returns-in-Err-clause-registered g c =
    let inside = c.self.inside in
    let v : View = record { id = c.in-Some.id; marked = false; members = c.new.result } in record {
      ok = tt;
      number = tt;
      err = λ key_of events r.
          let now = seen g.R.KeyRule.gives key_of events _ _ c.self.view_is r in
          let number : c.in-Some.id ≡ registered_after events + 1 = c.in-Some.ensures.1 ∙ ap (λ n. n + 1) now.registered in
          let new : view_value v ≡ new_view (registered_after events + 1) = λ i. record {
            id = number i;
            marked = false;
            members = c.new.ensures.empty i;
          } in
          let more = registered key_of events inside.views.items c.push.new.self.items v (table_value inside.table) now.state
          c.in_ok-push.ensures.items new in
          let old : c.apply.new.views.items ≡ c.push.new.self.items = λ i. (c.in-Err.ensures.views_err i).items in
          let back : c.pop.new.self.items ≡ inside.views.items
          = popped inside.views.items c.apply.new.views.items c.pop.new.self.items v _ (old ∙ c.in_ok-push.ensures.items)
          (omega (arith, c.apply.new.views.ok.0)) c.pop.ensures.rest in
          record {
            rule = now.rule;
            registered = now.registered;
            state = record {
              sets = now.state.sets;
              fits = now.state.fits;
              listed = ap (map view_value) back ∙ now.state.listed;
              cells = (c.in-Err.ensures.err key_of (Registered ∷ events) now.rule more).cells;
              pruned = (c.in-Err.ensures.err key_of (Registered ∷ events) now.rule more).pruned;
            };
          };
      exhausted = λ key_of events r.
          let now = seen g.R.KeyRule.gives key_of events _ _ c.self.view_is r in
          let number : c.in-Some.id ≡ registered_after events + 1 = c.in-Some.ensures.1 ∙ ap (λ n. n + 1) now.registered in
          let new : view_value v ≡ new_view (registered_after events + 1) = λ i. record {
            id = number i;
            marked = false;
            members = c.new.ensures.empty i;
          } in
          let more = registered key_of events inside.views.items c.push.new.self.items v (table_value inside.table) now.state
          c.in_ok-push.ensures.items new in (
            λ e. absurd (never_lacks key_of (Registered ∷ events) _ _ more (c.in-Err.ensures.exhausted key_of (Registered ∷ events) now.rule
                more (same_refusal c.in-Err.refusal NumbersExhausted e))),
            λ l. absurd (omega (arith, l, c.in-Some.ensures.0, now.registered)),
          );
    }
