-- A balancer that is made of texts: what its new registry took, and why that is refused for memory.
use Rattle.std.proofs.Common.{◌≡◌, ◌∙◌, inl, inr, ℕ, List, [], Option, sym, subst}
use Rattle.std.specs.Prelude.{if◌then◌else◌, ◌+◌}
use Rattle.std.specs.Borrow.{Bor}
use Rattle.lb_select_base.specs.Backends.{Member}
use Rattle.lb_select_base.specs.Memberships.{same_members}
use Rattle.lb_select_base.specs.declared.refusal.Refusal.{Refusal}
use Rattle.lb_select_base.specs.declared.refusal.Refusal.TheVariants.{OutOfMemory}
use Rattle.lb_health_core.specs.Keys.{by_identity}
use Rattle.lb_health_core.specs.Registry.{RegistryValue, IsRegistryAfter}
use Rattle.lb_health_core.specs.RegistryEvents.{registered_after}
use Rattle.lb_health_view.specs.RegistrySide.{registry_updated}
use Rattle.lb_health_view.specs.declared.discovery.DiscoverySource.{DiscoverySource}
use Rattle.lb_balancer_core.specs.Texts.{IsTextsRefusal, TakesTexts, one_more}
use Rattle.lb_balancer.specs.Texts.{IsOfTexts, OfNew}

module _ {R : Type 0} (gives : R → Member → Member → Type 0) (before : RegistryValue R) (new : IsRegistryAfter gives by_identity [] before)
    (texts : List (Bor (List ℕ))) where
  -- memory may be refused whatever the texts are
  pub for-memory : (build : List Member → Option Refusal) (r : Refusal) → r ≡ OutOfMemory
      → OfNew gives (λ registry. IsTextsRefusal gives registry texts build r)
  for-memory build r memory = (before, new, inr (inl memory))

  -- the balancer has this discovery and this registry
  pub of-texts : {D K : Type 0} (reads : K → ℕ → K → Type 0) (clock clock_after : K) {has discovery : DiscoverySource D}
      {registry after : RegistryValue R} {first : ℕ} (t : TakesTexts gives reads before texts clock clock_after discovery after)
      → has ≡ discovery → registry ≡ after → first ≡ (if same_members t.members [] then 0 else 1)
      → IsOfTexts reads gives texts clock clock_after has first registry
  of-texts reads clock clock_after t source registries began = record {
    before = before;
    new = new;
    taken = record {
      members = t.members;
      times = t.times;
      looked_up = t.looked_up;
      keeps = source ∙ t.keeps;
      read = t.read;
      readings = t.readings;
      registry = λ key_of events known.
          subst (λ x. IsRegistryAfter gives key_of (registry_updated key_of (registered_after events + 1) t.members [] (one_more events)) x)
          (sym registries) (t.registry key_of events known);
    };
    began = began;
  }
