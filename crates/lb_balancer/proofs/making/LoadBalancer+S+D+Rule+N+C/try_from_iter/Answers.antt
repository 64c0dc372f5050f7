-- What the plain balancer took in the new registry is what the shared one is made of.
use Rattle.std.proofs.Common.{◌≡◌, ◌∙◌, [], Err, refl, rules, subst, sym}
use Rattle.lb_select_base.specs.Memberships.{same_members}
use Rattle.lb_select_base.specs.declared.refusal.Refusal.TheVariants.{OutOfMemory}
use Rattle.lb_health_core.specs.Keys.{by_identity, rule_gives}
use Rattle.lb_health_view.specs.RegistrySide.{view_updated}
use Rattle.lb_balancer_core.specs.Texts.{one_more}
use Rattle.lb_balancer.specs.History.{MayGive}
use Rattle.lb_balancer.proofs.OfTexts.{for-memory, of-texts}
use Rattle.lb_balancer.proofs.Served.{first-discovered, first-generation, first-view}
use Rattle.lb_balancer.proofs.making.LoadBalancer+S+D+Rule+N+C.try_from_iter.Goals as goal

pub returns-in_err-made-clause-refused : goal.returns-in_err-made-clause-refused
returns-in_err-made-clause-refused g c =
    let told = c.in_err-made.ensures.refused in
    let e = c.in_err-made.field-0.0 in
    let is : c.from_residual.result ≡ Err e = search rules in
    rw is (told.0, told.1, (c.with_rule-registry.result, c.with_rule-registry.ensures by_identity (λ b k h. h), told.2))

pub returns-in_err-shared-clause-refused : goal.returns-in_err-shared-clause-refused
returns-in_err-shared-clause-refused g c =
    let told = c.in_ok-made.ensures.made in
    let is : c.from_residual-in_err-shared.result ≡ Err OutOfMemory = search rules in
    rw is (
      told.0,
      told.1,
      for-memory (rule_gives g.N.KeyRule.gives) c.with_rule-registry.result
          (c.with_rule-registry.ensures by_identity (λ b k h. h)) told.0
          (λ members. g.S.BackendSelection.refusal members g.S.BackendSelection.default_config) OutOfMemory refl,
    )

pub shared_of-requires-clause-view : goal.shared_of-requires-clause-view
shared_of-requires-clause-view g c =
    let told = c.in_ok-made.ensures.made in
    let taken = told.2.taken in (
      view_updated by_identity 1 taken.members [] (one_more []) [],
      first-view taken.members _ (told.2.stands by_identity [] (c.with_rule-registry.ensures by_identity (λ b k h. h))),
      first-discovered _ taken.members (same_members taken.members []) refl
          (subst (λ d. MayGive d taken.members []) (sym taken.keeps) (refl, refl)),
    )

pub returns-clause-made : goal.returns-clause-made
returns-clause-made g c =
    let told = c.in_ok-made.ensures.made in
    let new = c.with_rule-registry.ensures by_identity (λ b k h. h) in
    let taken = told.2.taken in
    let made = c.in_ok-shared.ensures.made in
    let first = c.in_ok-shared.ensures.first _ (first-view taken.members _ (told.2.stands by_identity [] new)) in (
      told.0,
      told.1,
      of-texts (rule_gives g.N.KeyRule.gives) c.with_rule-registry.result new told.0 g.K.MomentSource.reads _ _ taken made.0 made.3
          (first ∙ first-generation taken.members),
    )

-- the view is the first one of the new registry
pub returns-clause-parts : goal.returns-clause-parts
returns-clause-parts g c =
    let made = c.in_ok-shared.ensures.made in
    let first = c.in_ok-made.ensures.id by_identity [] (c.with_rule-registry.ensures by_identity (λ b k h. h)) in
    (made.1, made.2 ∙ first)

pub returns-clause-settings : goal.returns-clause-settings
returns-clause-settings g c = record { owns = refl; health_check = refl; update = refl; parallel = refl }
