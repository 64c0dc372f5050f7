use Rattle.std.proofs.Common.{rules, sym, subst}
use Rattle.std.specs.Prelude.{Bool, if◌then◌else◌}
use Rattle.lb_health_core.specs.Registry.{IsRegistryAfter}
use Rattle.lb_health_view.specs.RegistrySide.{registry_changed}
use Rattle.lb_health_view.proofs.view.ViewCore.update.Goals as goal

pub returns-clause-updated : goal.returns-clause-updated
returns-clause-updated g c = record {
  view = search rules;
  registry = λ key_of views events h r.
      let differs = c.is_membership.ensures views h in
      let Left : Bool → Type 0 = λ b. IsRegistryAfter g.R.KeyRule.gives key_of
      (if b then events else registry_changed key_of c.args.self.now.id c.args.discovered.keys views events) c.change.new.registry in
      subst Left differs (subst Left (sym c.if-is_membership.false) (c.in_ok-change.ensures.registry key_of views events h r));
  some = search rules;
  same = search rules;
  refusals = search rules;
}
