-- A registry of its own is keyed by identity, and a view of it was registered, for which a number was left.
use Rattle.std.proofs.Common.{◌≡◌, ◌∙◌, ◌∷◌, [], Result, Ok, Err, IfOk, ap, arith, rules, subst, sym}
use Rattle.std.specs.Arc.{arc_value}
use Rattle.lb_health_core.specs.Keys.{by_identity, rule_gives}
use Rattle.lb_health_core.specs.Registry.{IsRegistryAfter, RegistryValue}
use Rattle.lb_health_core.specs.RegistryEvents.{Applied, Registered}
use Rattle.lb_health_core.specs.declared.keys.Rule.{Rule}
use Rattle.lb_threads_core.specs.Registry.{RegistryHandle}
use Rattle.lb_threads_core.proofs.Registrations.{err-as, registers}
use Rattle.lb_threads_core.proofs.backends.Backends+D+Rule+N+C.new.Goals as goal

if_ok : {A E : Type 0} {P Q S : A → Type 0} (r : Result A E) → IfOk r P → IfOk r Q → ((x : A) → P x → Q x → S x) → IfOk r S
if_ok (Ok x) p q f = f x p q
if_ok (Err e) p q f = tt

pub returns-in_err-view-clause-refused : goal.returns-in_err-view-clause-refused
returns-in_err-view-clause-refused g c =
    let e = c.in_err-view.field-0.0 in
    let told = c.in_err-view.ensures in
    let is : c.from_residual.result ≡ Err e = search rules in
    let empty = c.with_rule-registry.ensures by_identity (λ b k h. h) in
    rw is (registers e (told.refused, λ x. absurd (omega (arith, (told.registered.exhausted by_identity [] empty).0 (err-as e x)))))

pub returns-clause-parts : goal.returns-clause-parts
returns-clause-parts g c =
    let empty = c.with_rule-registry.ensures by_identity (λ b k h. h) in
    if_ok c.behind.result c.behind.ensures.made c.behind.ensures.id
    (λ b made id. (made.0, made.2, id ∙ c.in_ok-view.ensures.registered.number by_identity [] empty))

pub returns-clause-registry : goal.returns-clause-registry
returns-clause-registry g c =
    let After : RegistryValue (Rule g.row.N.Denot) → Type 0 = λ r. IsRegistryAfter (rule_gives g.N.KeyRule.gives) by_identity
    (Applied ∷ Registered ∷ []) r in
    let empty = c.with_rule-registry.ensures by_identity (λ b k h. h) in
    let made : (arc_value c.in_ok-registry-2.registry).start ≡ c.register.new.registry = search rules in
    if_ok c.behind.result c.behind.ensures.made c.behind.ensures.id
    (λ b is id. subst After (sym (ap (λ (h : RegistryHandle (Rule g.row.N.Denot)). h.start) is.1 ∙ made))
    (c.in_ok-view.ensures.registered.ok by_identity [] empty))
