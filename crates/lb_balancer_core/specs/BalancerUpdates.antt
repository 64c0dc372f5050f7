-- What an update of a balancer with one selector does, and why it is refused.
use Rattle.std.specs.Prelude.{◌≡◌, ◌⊎◌, ℕ, Bool, List, length, Option, Some, None, if◌then◌else◌}
use Rattle.lb_select_base.specs.Backends.{Member}
use Rattle.lb_select_base.specs.Memberships.{same_members}
use Rattle.lb_select_base.specs.declared.refusal.Refusal.{Refusal}
use Rattle.lb_select_base.specs.declared.refusal.Refusal.TheVariants.{Discovery, OutOfMemory}
use Rattle.lb_health_core.specs.Registry.{RegistryValue, IsRegistryAfter, HoldsOf}
use Rattle.lb_health_view.specs.Discoveries.{Discovers, Found, MayFault, MayLackMemory}
use Rattle.lb_health_view.specs.RegistrySide.{registry_updated}
use Rattle.lb_health_view.specs.declared.discovery.DiscoverySource.{DiscoverySource}
use Rattle.lb_balancer_core.specs.Balancer.{ServedValue, Stands, After, members_now, update_cause, updated, view_events}
use Rattle.lb_balancer_core.specs.Timings.{Reads, update_timing}
use Rattle.lb_balancer_core.specs.declared.timings.UpdateTimings.{UpdateTimings}

module _ {D C G R : Type 0} (finds : D → Found → Type 0) (gives : R → Member → Member → Type 0)
    (discovery : DiscoverySource D) (was : ServedValue C G)
    (before : RegistryValue R) (build : List Member → C → Option Refusal) where
  -- The discovery gave members and settings that no cause refuses, and what is served is as they leave it. Where the membership is
  -- another one, the clock was read around the build too.
  pub record IsUpdated {K : Type 0} (reads : K → ℕ → K → Type 0) (clock clock_after : K) (now : ServedValue C G)
      (after : RegistryValue R) (timing : Option UpdateTimings) : Type 0 where
    pub members : List Member
    pub settings : List (Member × Bool)
    pub times : List ℕ
    pub discovered : Discovers finds discovery members settings
    pub read : Reads reads clock times clock_after
    pub timed : timing ≡ update_timing times
    pub readings : After was (λ e. length times ≡ (if same_members members (members_now e) then 2 else 4))
    pub free : HoldsOf gives before (λ key_of events. After was (λ e. update_cause
        (build members was.config) key_of was.view.id members events e ≡ None))
    pub stands : HoldsOf gives before (λ key_of events. After was (λ e. Stands (updated key_of was.view.id members settings events e) now))
    pub registry : HoldsOf gives before (λ key_of events. After was (λ e. IsRegistryAfter gives key_of
        (registry_updated key_of was.view.id members (view_events e) events) after))

  -- the discovery gave members that are refused, for the cause that applies, or for memory where none does
  pub record AreRefused (r : Refusal) : Type 0 where
    pub members : List Member
    pub settings : List (Member × Bool)
    pub discovered : Discovers finds discovery members settings
    pub cause : HoldsOf gives before (λ key_of events. After was (λ e. (update_cause
        (build members was.config) key_of was.view.id members events e ≡ Some r)
        ⊎ ((update_cause (build members was.config) key_of was.view.id members events e ≡ None) × (r ≡ OutOfMemory))))

  -- the discovery answers a fault or is refused memory, or what it gave is refused
  abbrev pub IsRefusal : Refusal → Type 0
  IsRefusal r = ((r ≡ Discovery) × MayFault finds discovery) ⊎ (((r ≡ OutOfMemory) × MayLackMemory finds discovery) ⊎ AreRefused r)
