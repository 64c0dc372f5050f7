-- A balancer that is made of texts, with a registry of its own: what its discovery keeps, and when it was made.
use Rattle.std.specs.Prelude.{◌≡◌, ℕ, List, [], if◌then◌else◌}
use Rattle.std.specs.Borrow.{Bor}
use Rattle.lb_select_base.specs.Backends.{Member}
use Rattle.lb_select_base.specs.Memberships.{same_members}
use Rattle.lb_health_core.specs.Keys.{by_identity}
use Rattle.lb_health_core.specs.Registry.{RegistryValue, IsRegistryAfter}
use Rattle.lb_health_view.specs.declared.discovery.DiscoverySource.{DiscoverySource}
use Rattle.lb_balancer_core.specs.Texts.{TakesTexts}

-- what holds of a new registry, which keys by identity
abbrev pub OfNew : {R : Type 0} → (R → Member → Member → Type 0) → (RegistryValue R → Type 0) → Type 0
OfNew {R} gives P = (new : RegistryValue R) × IsRegistryAfter gives by_identity [] new × P new

-- The texts were taken in a new registry. The balancer was made at generation 1, and at 0 where there are no backends.
pub record IsOfTexts {D K R : Type 0} (reads : K → ℕ → K → Type 0) (gives : R → Member → Member → Type 0) (texts : List (Bor (List ℕ)))
    (clock clock_after : K) (discovery : DiscoverySource D) (first : ℕ) (registry : RegistryValue R) : Type 0 where
  pub before : RegistryValue R
  pub new : IsRegistryAfter gives by_identity [] before
  pub taken : TakesTexts gives reads before texts clock clock_after discovery registry
  pub began : first ≡ (if same_members taken.members [] then 0 else 1)
