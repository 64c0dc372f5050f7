-- The generation whose cells go is the view's newest.
use Rattle.std.proofs.Common.{◌∷◌, ℕ, subst}
use Rattle.lb_health_core.specs.Registry.{IsRegistryAfter}
use Rattle.lb_health_core.specs.RegistryEvents.{Marked, Released}
use Rattle.lb_health_view.specs.ViewEvents.{generation_after}
use Rattle.lb_balancer.proofs.serving.Serving.leave.Goals as goal

pub returns-clause-after : goal.returns-clause-after
returns-clause-after g c key_of views events after registry =
    let Left : ℕ → ℕ → Type 0
    = λ i n. IsRegistryAfter g.R.KeyRule.gives key_of (Released i n ∷ Marked i ∷ events) c.release.new.self in
    let id = c.view_id-id.result in
    let left : Left id c.generation.result = c.release.ensures.after key_of _ (c.remove_view.ensures.after key_of events registry) in
    subst (λ i. Left i (generation_after views)) c.view_id-id.ensures
    (subst (λ n. Left id n) (c.generation.ensures views after) left)
