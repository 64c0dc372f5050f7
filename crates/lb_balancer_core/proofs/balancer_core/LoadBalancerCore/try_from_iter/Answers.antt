-- What was looked up is what the one update is to.
use Rattle.std.proofs.Common.{rules, ◌≡◌, ◌∙◌, ◌∷◌, Err, inr, subst}
use Rattle.lb_health_core.specs.Registry.{IsRegistryAfter}
use Rattle.lb_health_core.specs.RegistryEvents.{Marked}
use Rattle.lb_balancer_core.specs.Texts.{one_more}
use Rattle.lb_balancer_core.proofs.TextLemmas.{if-err, on-err, on-ok, refused-in, unmade, updated-in}
use Rattle.lb_balancer_core.proofs.balancer_core.LoadBalancerCore.try_from_iter.Goals as goal

pub returns-in_err-balancer-clause-refused : goal.returns-in_err-balancer-clause-refused
returns-in_err-balancer-clause-refused g c =
    let looked = c.in_ok-found.ensures.made in
    let r = c.in_err-balancer.field-0.0 in
    let is : c.from_residual-in_err-balancer.result ≡ Err r = search rules in
    let told = c.in_err-balancer.ensures.made in
    rw is (
      looked.0,
      looked.1,
      unmade g.R.KeyRule.gives looked.0 c.args.registry.now
          (λ members. g.S.BackendSelection.refusal members g.S.BackendSelection.default_config) r
          (told.refused, λ key_of events known apart few. (told.exhausted key_of events known apart).0 few),
    )

pub returns-in-Ok-clause-made : goal.returns-in-Ok-clause-made
returns-in-Ok-clause-made g c =
    let looked = c.in_ok-found.ensures.made in
    let made = c.in_ok-balancer.ensures in (
      looked.0,
      looked.1,
      updated-in g.R.KeyRule.gives looked.0 c.args.registry.now g.S.BackendSelection.refusal g.S.BackendSelection.default_config _
          c.in_ok-balancer.balancer.served c.from_backends.new.registry made.stands.1 made.stands.0 made.made.id made.made.registry looked.2
          g.D.ServiceDiscovery.finds g.K.MomentSource.reads c.in_ok-balancer.balancer.discovery c.update.new.self.discovery
          c.args.clock.now c.update.new.clock c.update.new.self.served c.update.new.registry c.update.new.self.timing
          made.parts.0 c.update.ensures.discovery (on-ok c.update.result tt c.in-Ok.is c.update.ensures.updated),
    )

pub returns-in-Err-clause-refused : goal.returns-in-Err-clause-refused
returns-in-Err-clause-refused g c =
    let looked = c.in_ok-found.ensures.made in
    let made = c.in_ok-balancer.ensures in (
      looked.0,
      looked.1,
      refused-in g.R.KeyRule.gives looked.0 c.args.registry.now g.S.BackendSelection.refusal g.S.BackendSelection.default_config _
          c.in_ok-balancer.balancer.served c.from_backends.new.registry made.stands.1 made.stands.0 made.made.id made.made.registry looked.2
          g.D.ServiceDiscovery.finds c.in_ok-balancer.balancer.discovery c.in-Err.refusal made.parts.0
          (if-err _ c.update.result c.in-Err.refusal c.in-Err.is c.update.ensures.refused),
    )

pub returns-in-Err-clause-err : goal.returns-in-Err-clause-err
returns-in-Err-clause-err g c key_of events known =
    let made = c.in_ok-balancer.ensures in
    let stays = on-err c.update.result c.in-Err.refusal c.in-Err.is c.update.ensures.stays.registry_err in
    let id = c.id.ensures ∙ c.update.ensures.stays.id ∙ made.made.id key_of events known in
    inr (subst (λ i. IsRegistryAfter g.R.KeyRule.gives key_of (Marked i ∷ one_more events) c.remove_view.new.self) id
    (c.remove_view.ensures.after key_of (one_more events) (stays key_of (one_more events) (made.made.registry key_of events known))))
