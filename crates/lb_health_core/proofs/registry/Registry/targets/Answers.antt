use Rattle.std.proofs.Common.{◌≡◌, Err, List, ◌∷◌, ◌++◌, map, ap, ◌∙◌, rules}
use Rattle.std.specs.List.{filter_map}
use Rattle.lb_select_base.specs.Backends.{Member}
use Rattle.lb_select_base.specs.declared.refusal.Refusal.TheVariants.{OutOfMemory, NumbersExhausted}
use Rattle.lb_health_core.specs.declared.targets.Target.{Target}
use Rattle.lb_health_core.specs.declared.targets.View.{View}
use Rattle.lb_health_core.specs.Registry.{IsRegistryAfter, target_at}
use Rattle.lb_health_core.specs.RegistryEvents.{Event, Applied}
use Rattle.lb_health_core.specs.Table.{table_value}
use Rattle.lb_health_core.specs.Targets.{view_value, live, targets_in}
use Rattle.lb_health_core.proofs.StateLemmas.{seen, not_refused, never_lacks}
use Rattle.lb_health_core.proofs.TableLemmas.{refused_for}
use Rattle.lb_health_core.proofs.registry.Registry.targets.Goals as goal

pub returns-in_err-order-clause-listed : goal.returns-in_err-order-clause-listed
returns-in_err-order-clause-listed g c = record {
  ok = search rules;
  answers = search rules;
  err = search rules;
  exhausted =
      λ key_of events r.
      let now = seen g.R.KeyRule.gives key_of events _ _ c.self.view_is r in (
        λ e. let no : OutOfMemory ≡ NumbersExhausted = search rules in absurd (cc),
        λ l. absurd (never_lacks key_of events _ _ now.state l),
      );
}

pub returns-in_err-reserve-clause-listed : goal.returns-in_err-reserve-clause-listed
returns-in_err-reserve-clause-listed g c = record {
  ok = search rules;
  answers = search rules;
  err = search rules;
  exhausted =
      λ key_of events r.
      let now = seen g.R.KeyRule.gives key_of events _ _ c.self.view_is r in (
        λ e. let no : OutOfMemory ≡ NumbersExhausted = search rules in absurd (cc),
        λ l. absurd (never_lacks key_of events _ _ now.state l),
      );
}

pub returns-in_err-apply-clause-listed : goal.returns-in_err-apply-clause-listed
returns-in_err-apply-clause-listed g c = record {
  ok = search rules;
  answers = search rules;
  err =
      let inside = c.self.inside in
      let stays :
      (key_of : Member → Member) (events : List Event) → IsRegistryAfter g.R.KeyRule.gives key_of events c.args.self.now
      → IsRegistryAfter g.R.KeyRule.gives key_of events
      (record {
        id = inside.id;
        rule = inside.rule;
        views = map view_value c.apply.new.views.items;
        registered = inside.registered;
        table = table_value c.apply.new.table;
      })
      = λ key_of events r.
      let now = seen g.R.KeyRule.gives key_of events _ _ c.self.view_is r in
      record {
        rule = now.rule;
        registered = now.registered;
        state = c.in_err-apply.ensures.err key_of events now.rule now.state;
      } in
      refused_for c.from_residual-in_err-apply.result stays;
  exhausted =
      λ key_of events r.
      let now = seen g.R.KeyRule.gives key_of events _ _ c.self.view_is r in (
        λ e. let is : c.in_err-apply.field-0.0 ≡ NumbersExhausted = search rules in
            absurd (never_lacks key_of events _ _ now.state
            (c.in_err-apply.ensures.exhausted key_of events now.rule now.state (ap Err is))),
        λ l. absurd (never_lacks key_of events _ _ now.state l),
      );
}

pub returns-clause-listed : goal.returns-clause-listed
returns-clause-listed g c = record {
  ok =
      λ key_of events r.
      let now = seen g.R.KeyRule.gives key_of events _ _ c.self.view_is r in
      record {
        rule = now.rule;
        registered = now.registered;
        state = c.in_ok-apply.ensures.ok key_of events now.rule now.state;
      };
  answers =
      λ key_of events r.
      let now = seen g.R.KeyRule.gives key_of events _ _ c.self.view_is r in
      let order = c.in_ok-order.ensures.ok key_of now.rule
      ∙ ap (λ (vs : List View). targets_in key_of (live (map view_value vs))) c.deref.ensures.value
      ∙ ap (λ vs. targets_in key_of (live vs)) now.state.listed in
      let after = c.in_ok-apply.ensures.ok key_of events now.rule now.state in
      c.with_targets.ensures key_of (Applied ∷ events) after.cells after.pruned
      ∙ ap (λ (ts : List Target). ts ++ filter_map (target_at key_of (Applied ∷ events)) c.in_ok-order.order.entries)
      (c.in_ok-reserve.ensures.items ∙ c.new-targets.ensures.items)
      ∙ ap (filter_map (target_at key_of (Applied ∷ events))) order;
  err = tt;
  exhausted =
      λ key_of events r.
      let now = seen g.R.KeyRule.gives key_of events _ _ c.self.view_is r in
      (λ e. absurd (not_refused _ _ e), λ l. absurd (never_lacks key_of events _ _ now.state l));
}
