-- A balancer that is made of texts: its backends are those at the addresses of the texts, and it was updated once; and why texts make none.
use Rattle.std.specs.Prelude.{◌≡◌, ◌⊎◌, ◌≤◌, ◌+◌, ◌^◌, ℕ, List, [], ◌∷◌, length, Option, Some, None, Ok, Err, if◌then◌else◌}
use Rattle.std.specs.Borrow.{Bor}
use Rattle.lb_select_base.specs.Backends.{Member}
use Rattle.lb_select_base.specs.Memberships.{same_members}
use Rattle.lb_select_base.specs.declared.refusal.Refusal.{Refusal}
use Rattle.lb_select_base.specs.declared.refusal.Refusal.TheVariants.{NumbersExhausted, OutOfMemory}
use Rattle.lb_health_core.specs.Registry.{RegistryValue, IsRegistryAfter, HoldsOf}
use Rattle.lb_health_core.specs.RegistryEvents.{Event, Applied, Registered, registered_after}
use Rattle.lb_health_view.specs.RegistrySide.{registry_updated}
use Rattle.lb_health_view.specs.Lookups.{IsMadeOf}
use Rattle.lb_health_view.specs.declared.discovery.DiscoverySource.{DiscoverySource}
use Rattle.lb_health_view.specs.declared.discovery.DiscoverySource.TheVariants.{Static}
use Rattle.lb_balancer_core.specs.Balancer.{ServedValue, Stands, update_cause, updated}
use Rattle.lb_balancer_core.specs.Timings.{Reads, update_timing}
use Rattle.lb_balancer_core.specs.declared.timings.UpdateTimings.{UpdateTimings}

-- a registry that one more view was registered in
abbrev pub one_more : List Event → List Event
one_more events = Applied ∷ Registered ∷ events

-- The discovery keeps the backends that some network answered for the texts, and they were shown to a view that was registered in this
-- registry, which others may be in. The clock was read at the start and at the end, and around the build where there are backends.
pub record TakesTexts {D R K : Type 0} (gives : R → Member → Member → Type 0) (reads : K → ℕ → K → Type 0) (before : RegistryValue R)
    (texts : List (Bor (List ℕ))) (clock clock_after : K) (discovery : DiscoverySource D) (after : RegistryValue R) : Type 0 where
  pub members : List Member
  pub times : List ℕ
  pub looked_up : IsMadeOf texts (Ok members)
  pub keeps : discovery ≡ Static members
  pub read : Reads reads clock times clock_after
  pub readings : length times ≡ (if same_members members [] then 2 else 4)
  pub registry : HoldsOf gives before (λ key_of events. IsRegistryAfter gives key_of (registry_updated key_of
      (registered_after events + 1) members [] (one_more events)) after)

-- The balancer took the texts: what it serves was updated to their backends, once, and that is its timing.
pub record IsOfTextsIn {D C G R K : Type 0} (gives : R → Member → Member → Type 0) (reads : K → ℕ → K → Type 0) (before : RegistryValue R)
    (texts : List (Bor (List ℕ))) (clock clock_after : K) (discovery : DiscoverySource D) (served : ServedValue C G)
    (after : RegistryValue R) (timing : Option UpdateTimings) : Type 0 where
  pub taken : TakesTexts gives reads before texts clock clock_after discovery after
  pub timed : timing ≡ update_timing taken.times
  pub stands : HoldsOf gives before (λ key_of events. Stands (updated key_of (registered_after events + 1) taken.members []
      (one_more events) []) served)

-- Why texts make no balancer in this registry: a lookup is refused, or a selector over no backends; no number is left for a view; what
-- was found is refused, for the cause that applies, or for memory where none does; or for memory.
abbrev pub IsTextsRefusal : {R : Type 0} → (R → Member → Member → Type 0) → RegistryValue R → List (Bor (List ℕ))
    → (List Member → Option Refusal) → Refusal → Type 0
IsTextsRefusal gives before texts build r =
    IsMadeOf texts (Err r)
    ⊎ ((r ≡ OutOfMemory) ⊎ ((build [] ≡ Some r)
    ⊎ (((r ≡ NumbersExhausted) × (HoldsOf gives before (λ key_of events. 2 ^ 64 ≤ registered_after events + 1)))
    ⊎ ((members : List Member) × IsMadeOf texts (Ok members)
    × (HoldsOf gives before (λ key_of events. (update_cause (build members) key_of (registered_after events + 1) members
    (one_more events) [] ≡ Some r) ⊎ ((update_cause (build members) key_of (registered_after events + 1) members (one_more events) []
    ≡ None) × (r ≡ OutOfMemory))))))))
