-- The registry has the caller's rule, which gives the keys of its numbers.
use Rattle.std.proofs.Common.{◌≡◌, ◌∙◌, ℕ, [], Result, Ok, Err, IfOk, ap, subst, sym}
use Rattle.lb_select_base.specs.Backends.{Member}
use Rattle.lb_health_core.specs.Keys.{by_number}
use Rattle.lb_health_core.specs.Registry.{IsRegistryAfter, RegistryValue}
use Rattle.lb_threads_core.proofs.making.HealthRegistry+Rule+Numbered+E+C.with_equivalence.Goals as goal

if_ok : {A E : Type 0} {P Q : A → Type 0} (r : Result A E) → IfOk r P → ((x : A) → P x → Q x) → IfOk r Q
if_ok (Ok x) p f = f x p
if_ok (Err e) p f = tt

at_start : {R : Type 0} {gives : R → Member → Member → Type 0} {x y : RegistryValue R} (key_of : Member → Member) → x ≡ y
    → IsRegistryAfter gives key_of [] y → IsRegistryAfter gives key_of [] x
at_start {gives = gives} key_of same is = subst (λ r. IsRegistryAfter gives key_of [] r) (sym same) is

pub returns-clause-made : goal.returns-clause-made
returns-clause-made g c =
    if_ok c.over.result c.over.ensures.made
    (λ h same number_of one.
    let key_of : Member → Member = λ b. by_number (number_of b) in
    at_start key_of same (c.with_rule.ensures key_of (λ b k gives. gives.2 ∙ ap by_number (one b gives.0 gives.1))))
