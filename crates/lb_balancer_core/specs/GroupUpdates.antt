-- What an update of a group balancer does: what the discovery gave is scheduled at the clock's second reading.
use Rattle.std.specs.Prelude.{◌≡◌, ◌⊎◌, ℕ, Bool, List, [], ◌∷◌, Option, Ok}
use Rattle.lb_select_base.specs.Backends.{Member}
use Rattle.lb_select_base.specs.declared.refusal.Refusal.{Refusal}
use Rattle.lb_select_base.specs.declared.refusal.Refusal.TheVariants.{Discovery, OutOfMemory}
use Rattle.lb_health_core.specs.Registry.{RegistryValue, IsRegistryAfter, HoldsOf}
use Rattle.lb_rebuild_core.specs.declared.membership.Scheduled.{Scheduled}
use Rattle.lb_health_view.specs.Discoveries.{Discovers, Found, MayFault, MayLackMemory}
use Rattle.lb_health_view.specs.RegistrySide.{registry_updated}
use Rattle.lb_health_view.specs.Updates.{RegistryRefuses}
use Rattle.lb_health_view.specs.declared.discovery.DiscoverySource.{DiscoverySource}
use Rattle.lb_rebuild_core.specs.GroupCalls.{IfOpen, IsRefusedFor, Schedules, after_schedule}
use Rattle.lb_rebuild_core.specs.GroupHistory.{slot_events}
use Rattle.lb_rebuild_core.specs.GroupStates.{GroupValue, Stands, After, views_of}
use Rattle.lb_balancer_core.specs.Timings.{Reads, update_timing}
use Rattle.lb_balancer_core.specs.declared.timings.UpdateTimings.{UpdateTimings}

module _ {D C R : Type 0} (finds : D → Found → Type 0) (gives : R → Member → Member → Type 0)
    (discovery : DiscoverySource D) (was : GroupValue C)
    (before : RegistryValue R) where
  -- the discovery gave members and settings, and they were scheduled at the second of the moments that were read
  pub record IsGroupUpdated {K : Type 0} (reads : K → ℕ → K → Type 0) (clock clock_after : K) (now : GroupValue C)
      (after : RegistryValue R) (timing : Option UpdateTimings) (s : Scheduled) : Type 0 where
    pub members : List Member
    pub settings : List (Member × Bool)
    pub start : ℕ
    pub moment : ℕ
    pub discovered : Discovers finds discovery members settings
    pub read : Reads reads clock (start ∷ moment ∷ []) clock_after
    pub timed : timing ≡ update_timing (start ∷ moment ∷ [])
    pub answers : After was (λ made e. Schedules made e members (Ok s))
    pub stands : HoldsOf gives before (λ key_of events. After was (λ made e. Stands made
        (after_schedule key_of was.view.id members settings moment events e) now))
    pub registry : HoldsOf gives before (λ key_of events. After was (λ made e. IsRegistryAfter gives key_of
        (registry_updated key_of was.view.id members (views_of made e) events) after))

  -- The discovery gave members that are refused. That the registry lacks the view goes before the want of numbers, and both before
  -- that of memory.
  pub record AreRefused (r : Refusal) : Type 0 where
    pub members : List Member
    pub settings : List (Member × Bool)
    pub discovered : Discovers finds discovery members settings
    pub cause : After was (λ made e. IsRefusedFor (slot_events e) members r)
    pub refusals : RegistryRefuses gives (λ refusal. r ≡ refusal) (IfOpen members was) members was.view before

  -- the discovery answers a fault or is refused memory, or what it gave is refused
  abbrev pub IsGroupRefusal : Refusal → Type 0
  IsGroupRefusal r = ((r ≡ Discovery) × MayFault finds discovery) ⊎ (((r ≡ OutOfMemory) × MayLackMemory finds discovery) ⊎ AreRefused r)
