-- What is known of the update of a balancer that threads share: what it read of the clock, and why it is refused; and how the sleep of one
-- that is driven ends.
use Rattle.std.specs.Prelude.{◌≡◌, ◌⊎◌, ℕ, Bool, List, length, Option, Some, None, ◌≤◌}
use Rattle.lb_select_base.specs.Backends.{Member}
use Rattle.lb_select_base.specs.Refusals.{memory_apart}
use Rattle.lb_select_base.specs.declared.refusal.Refusal.{Refusal}
use Rattle.lb_select_base.specs.declared.refusal.Refusal.TheVariants.{Discovery, OutOfMemory, GenerationsExhausted}
use Rattle.lb_health_core.specs.Registry.{RegistryValue}
use Rattle.lb_health_view.specs.Causes.{IsRegistryRefusal}
use Rattle.lb_health_view.specs.Discoveries.{Discovers, Found, MayFault, MayLackMemory}
use Rattle.lb_balancer_core.specs.ServedViews.{IsLeastCause, ServedViewValue, TakesIn}
use Rattle.lb_balancer_core.specs.Timings.{Reads}
use Rattle.lb_threads_core.specs.Registry.{IsRegistryOf}
use Rattle.lb_balancer.specs.History.{BalancerValue, IsServedBy, UnderServing}
use Rattle.lb_background.specs.declared.event.Event.{Event}
use Rattle.lb_background.specs.declared.event.Event.TheVariants as on

-- the clock was read at the start and at the end, and around the build where there was one
abbrev pub ReadsUpdate : {K : Type 0} → (K → ℕ → K → Type 0) → K → K → Type 0
ReadsUpdate reads clock after = (times : List ℕ) × Reads reads clock times after × ((length times ≡ 2) ⊎ (length times ≡ 4))

-- The discovery gave members and settings, and at some state of the balancer they were taken in.
pub record IsSharedUpdated {D C R : Type 0} (finds : D → Found → Type 0) (b : BalancerValue D C R) : Type 0 where
  pub members : List Member
  pub settings : List (Member × Bool)
  pub discovered : Discovers finds b.discovery members settings
  pub taken : UnderServing b (TakesIn members settings)

module _ {D C R : Type 0} (gives : R → Member → Member → Type 0) (b : BalancerValue D C R) (members : List Member) where
  -- At some state of what the balancer serves and of its registry, view and registry refuse the membership for this: the least cause that
  -- applies there, and memory only where none does.
  pub record IsRoomRefusal (r : Refusal) : Type 0 where
    pub kind : (r ≡ GenerationsExhausted) ⊎ IsRegistryRefusal r
    pub served : ServedViewValue C
    pub was_served : IsServedBy b served
    pub cells : RegistryValue R
    pub was_registry : IsRegistryOf gives b.registry cells
    pub least : IsLeastCause gives served.view cells members r

  -- why a membership is refused: it makes no selector, for this cause; and where there is none, view and registry refuse it
  abbrev pub IsBuildRefusal : Option Refusal → Refusal → Type 0
  IsBuildRefusal build r = (memory_apart build ≡ Some r) ⊎ ((memory_apart build ≡ None) × IsRoomRefusal r)

-- why an update is refused: the discovery answered a fault or was refused memory, or what it gave is refused
abbrev pub IsSharedRefusal : {D C R : Type 0} → (D → Found → Type 0) → (R → Member → Member → Type 0)
    → (List Member → C → Option Refusal) → BalancerValue D C R → Refusal → Type 0
IsSharedRefusal finds gives build b r =
    ((r ≡ Discovery) × MayFault finds b.discovery)
    ⊎ (((r ≡ OutOfMemory) × MayLackMemory finds b.discovery)
    ⊎ ((members : List Member) × (settings : List (Member × Bool)) × Discovers finds b.discovery members settings
    × IsBuildRefusal gives b members (build members b.config) r))

-- the sleep ends by the shutdown, or at a reading of the clock that had come to the moment
abbrev pub EndsSleep : {K : Type 0} → (K → ℕ → K → Type 0) → ℕ → Event → K → Type 0
EndsSleep {K} reads moment e after =
    (e ≡ on.Shutdown) ⊎ ((e ≡ on.Woke) × (before : K) × (now : ℕ) × reads before now after × (moment ≤ now))
