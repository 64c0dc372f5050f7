-- As many lives ended as there were rounds.
use Rattle.std.proofs.Common.{◌≡◌, ◌++◌, ℕ, List, length, map}
use Rattle.lb_health_core.specs.RegistryEvents.{Released}
use Rattle.lb_health_core.specs.Registry.{Grows}
use Rattle.lb_threads_core.proofs.registry.release_all.Given as goal

abbrev pub invariant-loop : goal.invariant-loop
invariant-loop g l =
    (generations : List ℕ) × (length generations ≡ l.counter)
    × (l.registry.id ≡ l.fn.registry.id)
    × Grows g.R.KeyRule.gives l.fn.registry (λ events. map (λ n. Released l.id n) generations ++ events) l.registry
