use Rattle.std.proofs.Common.{◌≡◌, true, false, Option, Some, None, sym, ◌∙◌, rules, true≢false, refl}
use Rattle.std.specs.Option.{IsSomeAnd}
use Rattle.std.specs.Prelude.{IsSome}
use Rattle.lb_health_view.proofs.view.ViewCore.is_ready.Goals as goal

some_of : {A : Type 0} (P : A → Type 0) (o : Option A) → IsSomeAnd o P → IsSome o
some_of P None h = absurd h
some_of P (Some x) h = refl

pub returns-then-not-is_healthy : goal.returns-then-not-is_healthy
returns-then-not-is_healthy g c = λ key_of views events h r own l.
    let no : c.is_healthy.result ≡ false = search rules in
    (λ t. absurd (cc), λ e. absurd (true≢false (sym ((c.is_healthy.ensures key_of events r).1 e.healthy) ∙ no)))

pub returns : goal.returns
returns g c = λ key_of views events h r own l.
    let yes : c.is_healthy.result ≡ true = search rules in
    let healthy = (c.is_healthy.ensures key_of events r).0 yes in
    let listed = own c.args.backend.now (some_of _ _ healthy) in
    let enabled = c.is_enabled.ensures views h (l listed) in
    (λ t. record { listed = listed; enabled = sym enabled ∙ t; healthy = healthy }, λ e. enabled ∙ e.enabled)
