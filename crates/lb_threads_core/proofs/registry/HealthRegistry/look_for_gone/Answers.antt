-- What left are events more.
use Rattle.std.proofs.Common.{true, refl}
use Rattle.lb_threads_core.proofs.registry.HealthRegistry.look_for_gone.Goals as goal

pub returns-clause-registry : goal.returns-clause-registry
returns-clause-registry g c =
    λ key_of events after.
    let left = c.remove_gone.ensures (λ _. true) (λ k d below. refl) in
    (left.events, left.becomes key_of events after)

pub returns-clause-one : goal.returns-clause-one
returns-clause-one g c = (c.remove_gone.ensures (λ _. true) (λ k d below. refl)).one
