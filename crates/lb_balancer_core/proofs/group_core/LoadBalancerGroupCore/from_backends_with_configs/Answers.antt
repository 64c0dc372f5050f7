-- The least cause is never the want of memory.
use Rattle.std.proofs.Common.{rules, ◌≡◌, ◌∙◌, [], Option, Some, None, map, sym}
use Rattle.lb_select_base.specs.Refusals.{least}
use Rattle.lb_select_base.specs.declared.refusal.Refusal.{Refusal}
use Rattle.lb_rebuild_core.proofs.LeastApart.{least-apart}
use Rattle.lb_balancer_core.specs.SlotConfigs.{slot_configs}
use Rattle.lb_balancer_core.proofs.group_core.LoadBalancerGroupCore.from_backends_with_configs.Goals as goal

some-is : (e : Refusal) (o : Option Refusal) → o ≡ Some e → o ≡ None → ⊥
some-is e o is none = absurd (cc)

pub returns-in-Some-clause-made : goal.returns-in-Some-clause-made
returns-in-Some-clause-made g c =
    let causes = map (g.S.BackendSelection.refusal []) (slot_configs g.S.BackendSelection.default_config c.args.configs.items) in
    let some = sym c.least_cause.ensures ∙ c.in-Some.is in
    record {
      id = search rules;
      registry = search rules;
      err = search rules;
      exhausted = λ key_of events known apart.
          absurd (some-is c.in-Some.refusal (least causes) (cc) (sym (least-apart causes) ∙ apart));
      refused = search (rules, some);
      one_registry = search rules;
    }

pub returns-in-None-clause-made : goal.returns-in-None-clause-made
returns-in-None-clause-made g c =
    let none = sym c.least_cause.ensures ∙ c.in-None.is in
    record {
      id = search rules;
      registry = search rules;
      err = search rules;
      exhausted = search rules;
      refused = search (rules, none);
      one_registry = search rules;
    }

pub returns-in-Ok-clause-made : goal.returns-in-Ok-clause-made
returns-in-Ok-clause-made g c =
    let made = c.in-Ok.ensures.made in
    record {
      id = made.id;
      registry = made.registry;
      err = search rules;
      exhausted = search rules;
      refused = search rules;
      one_registry = made.one_registry;
    }
