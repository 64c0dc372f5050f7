-- What the makers of a balancer that threads share promise.
use Rattle.std.specs.Prelude.{◌≡◌, Option, None, Result, Bool, false, IfOk, ℕ}
use Rattle.lb_select_base.specs.Backends.{Member}
use Rattle.lb_select_base.specs.declared.refusal.Refusal.{Refusal}
use Rattle.lb_health_core.specs.Registry.{RegistryValue}
use Rattle.lb_health_view.specs.declared.discovery.DiscoverySource.{DiscoverySource}
use Rattle.lb_rebuild_core.specs.GroupCalls.{IsMakingRefusal}
use Rattle.lb_threads_core.specs.View.{IsMadeWithView}
use Rattle.lb_balancer.specs.History.{BalancerValue}

-- A balancer over this discovery was to be made in this registry, with selectors of this configuration, and the call answered r. `refusal`
-- tells why a configuration gives no selector over no backends, and `shared` what is known of the balancer that was made.
pub record IsBalancerMade {A D C R : Type 0} (gives : R → Member → Member → Type 0) (refusal : C → Option Refusal)
    (discovery : DiscoverySource D) (registry : RegistryValue R) (config : C) (r : Result A Refusal) (shared : A → BalancerValue D C R)
    : Type 0 where
  -- it is over the discovery, in the registry and with the configuration, at generation 0
  pub made : IfOk r (λ a. ((shared a).discovery ≡ discovery) × ((shared a).config ≡ config) × ((shared a).first ≡ 0)
      × ((shared a).registry ≡ registry))
  -- it has a view of its own in the registry
  pub view : IsMadeWithView gives registry (refusal config) r (λ a. (shared a).view_id)
  -- it is refused for the configuration's cause; where there is none, for memory or because no number is left
  pub refused : IsMakingRefusal (refusal config) r

-- A balancer that was just made checks the targets of its registry where `owned` says that it owns these, and until it is set otherwise it
-- runs each of its tasks once, and one check after another.
pub record IsNotSetYet (owned owns_checks : Bool) (health_check_frequency update_frequency : Option ℕ) (parallel_health_check : Bool)
    : Type 0 where
  pub owns : owns_checks ≡ owned
  pub health_check : health_check_frequency ≡ None
  pub update : update_frequency ≡ None
  pub parallel : parallel_health_check ≡ false
