use Rattle.std.proofs.Common.{◌≡◌, Err, List, map, ap, ◌∙◌, rules}
use Rattle.lb_select_base.specs.Backends.{Member}
use Rattle.lb_select_base.specs.declared.refusal.Refusal.TheVariants.{NumbersExhausted}
use Rattle.lb_health_core.specs.Registry.{IsRegistryAfter}
use Rattle.lb_health_core.specs.RegistryEvents.{Event}
use Rattle.lb_health_core.specs.Table.{table_value}
use Rattle.lb_health_core.specs.Targets.{view_value}
use Rattle.lb_health_core.proofs.CountLemmas.{counted}
use Rattle.lb_health_core.proofs.StateLemmas.{seen, not_refused, never_lacks}
use Rattle.lb_health_core.proofs.TableLemmas.{refused_for}
use Rattle.lb_health_core.proofs.registry.Registry.target_count.Goals as goal

pub returns-in_err-apply-clause-counted : goal.returns-in_err-apply-clause-counted
returns-in_err-apply-clause-counted g c = record {
  ok = search rules;
  answers = search rules;
  err =
      let inside = c.self.inside in
      let stays :
      (key_of : Member → Member) (events : List Event) → IsRegistryAfter g.R.KeyRule.gives key_of events c.args.self.now
      → IsRegistryAfter g.R.KeyRule.gives key_of events
      (record {
        id = inside.id;
        rule = inside.rule;
        views = map view_value c.apply.new.views.items;
        registered = inside.registered;
        table = table_value c.apply.new.table;
      })
      = λ key_of events r.
      let now = seen g.R.KeyRule.gives key_of events _ _ c.self.view_is r in
      record {
        rule = now.rule;
        registered = now.registered;
        state = c.in_err-apply.ensures.err key_of events now.rule now.state;
      } in
      refused_for c.from_residual.result stays;
  exhausted =
      λ key_of events r.
      let now = seen g.R.KeyRule.gives key_of events _ _ c.self.view_is r in (
        λ e. let is : c.in_err-apply.field-0.0 ≡ NumbersExhausted = search rules in
            absurd (never_lacks key_of events _ _ now.state
            (c.in_err-apply.ensures.exhausted key_of events now.rule now.state (ap Err is))),
        λ l. absurd (never_lacks key_of events _ _ now.state l),
      );
}

pub returns-clause-counted : goal.returns-clause-counted
returns-clause-counted g c = record {
  ok =
      λ key_of events r.
      let now = seen g.R.KeyRule.gives key_of events _ _ c.self.view_is r in
      record {
        rule = now.rule;
        registered = now.registered;
        state = c.in_ok-apply.ensures.ok key_of events now.rule now.state;
      };
  answers =
      λ key_of events r.
      let now = seen g.R.KeyRule.gives key_of events _ _ c.self.view_is r in
      c.len.ensures.len ∙ counted key_of events _ _ (c.in_ok-apply.ensures.ok key_of events now.rule now.state) c.len.ensures.ordered;
  err = tt;
  exhausted =
      λ key_of events r.
      let now = seen g.R.KeyRule.gives key_of events _ _ c.self.view_is r in
      (λ e. absurd (not_refused _ _ e), λ l. absurd (never_lacks key_of events _ _ now.state l));
}
