-- Where the selector is refused for memory, view and registry are asked at their states.
use Rattle.std.proofs.Common.{◌≡◌, ◌⊎◌, ◌∙◌, inl, inr, Option, Some, None, ap}
use Rattle.lb_select_base.specs.Refusals.{memory_apart}
use Rattle.lb_select_base.specs.declared.refusal.Refusal.{Refusal}
use Rattle.lb_select_base.specs.declared.refusal.Refusal.TheVariants.{OutOfMemory}
use Rattle.lb_balancer.proofs.Served.{known, of-registry}
use Rattle.lb_balancer.proofs.balancing.Balancing.build.Goals as goal

-- what is refused for memory has no cause apart from it
apart : {A : Type 0} (cause : Option Refusal) (e : Refusal) → e ≡ OutOfMemory → (cause ≡ Some e) ⊎ ((cause ≡ None) × A)
    → memory_apart cause ≡ None
apart cause e memory (inl is) = ap memory_apart (is ∙ ap Some memory)
apart cause e memory (inr (is, a)) = ap memory_apart is

pub returns-in-Err-OutOfMemory-clause-refused : goal.returns-in-Err-OutOfMemory-clause-refused
returns-in-Err-OutOfMemory-clause-refused g c =
    let config = c.config.ensures ∙ ap (λ b. b.config) c.self.view_is in
    let refused = rw config at c.in-Err-OutOfMemory.ensures in
    let cause = g.S.BackendSelection.refusal c.args.members.now.keys c.args.self.now.config in
    let none = apart cause c.in-Err-OutOfMemory.field-0 c.in-Err-OutOfMemory.field-0-is refused in
    inr (
      none,
      record {
        kind = c.cause-cause.ensures.kind;
        served = c.take-held.result.value.served;
        was_served = known (c.self.invariant.0 ∙ c.self.view_is) c.take-held.ensures.fact;
        cells = c.take_registry-cells.result.value;
        was_registry = of-registry g.R.KeyRule.gives c.registry-registries.ensures c.self.view_is c.take_registry-cells.ensures.registry;
        least = c.cause-cause.ensures.least;
      },
    )
