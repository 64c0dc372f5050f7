-- A balancer that is made of texts: its discovery always answers what was looked up, so that an update of it is one to that.
use Rattle.std.proofs.Common.{◌≡◌, ◌⊎◌, ◌∙◌, ◌≤◌, ◌+◌, ◌^◌, ℕ, List, [], Option, Some, None, Result, Ok}
use Rattle.std.proofs.Common.{Err, IfErr, IsErrOf, OnErr, OnOk, inl, inr, sym, subst, ap, length}
use Rattle.std.specs.Prelude.{if◌then◌else◌}
use Rattle.std.specs.Borrow.{Bor}
use Rattle.lb_select_base.specs.Backends.{Member}
use Rattle.lb_select_base.specs.Memberships.{same_members}
use Rattle.lb_select_base.specs.Refusals.{memory_apart}
use Rattle.lb_select_base.specs.declared.refusal.Refusal.{Refusal}
use Rattle.lb_select_base.specs.declared.refusal.Refusal.TheVariants.{NumbersExhausted, OutOfMemory}
use Rattle.lb_health_core.specs.Registry.{RegistryValue, IsRegistryAfter}
use Rattle.lb_health_core.specs.RegistryEvents.{Event, registered_after}
use Rattle.lb_health_view.specs.Discoveries.{Discovers, Found}
use Rattle.lb_health_view.specs.RegistrySide.{registry_updated}
use Rattle.lb_health_view.specs.Lookups.{IsMadeOf}
use Rattle.lb_health_view.specs.declared.discovery.DiscoverySource.{DiscoverySource}
use Rattle.lb_health_view.specs.declared.discovery.DiscoverySource.TheVariants.{Static}
use Rattle.lb_balancer_core.specs.Balancer.{ServedValue, Stands, update_cause, updated}
use Rattle.lb_balancer_core.specs.BalancerUpdates.{IsRefusal, IsUpdated}
use Rattle.lb_balancer_core.specs.Texts.{IsOfTextsIn, IsTextsRefusal, one_more}
use Rattle.lb_rebuild_core.specs.GroupCalls.{IsMakingRefusal}
use Rattle.lb_balancer_core.specs.declared.timings.UpdateTimings.{UpdateTimings}

-- refused for this cause, or for memory where there is none
abbrev IsFor : Option Refusal → Refusal → Type 0
IsFor cause r = (cause ≡ Some r) ⊎ ((cause ≡ None) × (r ≡ OutOfMemory))

-- what holds where a call succeeds or is refused
pub on-ok : {A E P : Type 0} (r : Result A E) (a : A) → r ≡ Ok a → OnOk r P → P
on-ok {P = P} r a is p = subst (λ x. OnOk x P) is p

pub on-err : {A E P : Type 0} (r : Result A E) (e : E) → r ≡ Err e → OnErr r P → P
on-err {P = P} r e is p = subst (λ x. OnErr x P) is p

pub if-err : {A E : Type 0} (P : E → Type 0) (r : Result A E) (e : E) → r ≡ Err e → IfErr r P → P e
if-err P r e is p = subst (λ x. IfErr x P) is p

module _ {R : Type 0} (gives : R → Member → Member → Type 0) (texts : List (Bor (List ℕ))) (before : RegistryValue R) where
  -- no balancer without backends is made
  pub unmade : {A : Type 0} (build : List Member → Option Refusal) (r : Refusal)
      → (let told : Result A Refusal = Err r in IsMakingRefusal (build []) told
      × ((key_of : Member → Member) (events : List Event) → IsRegistryAfter gives key_of events before → memory_apart (build []) ≡ None
      → IsErrOf told NumbersExhausted → 2 ^ 64 ≤ registered_after events + 1))
      → IsTextsRefusal gives before texts build r
  unmade build r (inl some, few) = inr (inr (inl some))
  unmade build r (inr (apart, inl memory), few) = inr (inl memory)
  unmade build r (inr (apart, inr numbers), few) =
      inr (inr (inr (inl (numbers, λ key_of events is. few key_of events is apart (ap Err numbers)))))

  module _ {C G : Type 0} (build : List Member → C → Option Refusal) (default : C) (found : List Member) (was : ServedValue C G)
      (middle : RegistryValue R) (config : was.config ≡ default) (stands : Stands [] was)
      (id : (key_of : Member → Member) (events : List Event) → IsRegistryAfter gives key_of events before
      → was.view.id ≡ registered_after events + 1)
      (registered : (key_of : Member → Member) (events : List Event) → IsRegistryAfter gives key_of events before
      → IsRegistryAfter gives key_of (one_more events) middle)
      (made : IsMadeOf texts (Ok found)) {D : Type 0} (finds : D → Found → Type 0) where
    not-taken : (r : Refusal) → IsRefusal finds gives (Static found) was middle build r
        → IsTextsRefusal gives before texts (λ ms. build ms default) r
    not-taken r (inl h) = absurd h.1
    not-taken r (inr (inl memory)) = inr (inl memory.0)
    not-taken r (inr (inr a)) = inr (inr (inr (inr (
      a.members,
      subst (λ ms. IsMadeOf texts (Ok ms)) (sym a.discovered.0) made,
      λ key_of events is.
          subst (λ c. IsFor (update_cause (build a.members c) key_of (registered_after events + 1) a.members (one_more events) []) r) config
          (subst (λ i. IsFor (update_cause (build a.members was.config) key_of i a.members (one_more events) []) r) (id key_of events is)
          (a.cause key_of (one_more events) (registered key_of events is) [] stands)),
    ))))

    -- the one update in that registry is refused
    pub refused-in : (discovery : DiscoverySource D) (r : Refusal) → discovery ≡ Static found
        → IsRefusal finds gives discovery was middle build r → IsTextsRefusal gives before texts (λ ms. build ms default) r
    refused-in discovery r is h = not-taken r (subst (λ d. IsRefusal finds gives d was middle build r) is h)

    -- the one update in that registry is made
    pub updated-in : {K : Type 0} (reads : K → ℕ → K → Type 0) (discovery after_discovery : DiscoverySource D) (clock clock_after : K)
        (now : ServedValue C G) (after : RegistryValue R) (timing : Option UpdateTimings) → discovery ≡ Static found
        → after_discovery ≡ discovery
        → IsUpdated finds gives discovery was middle build reads clock clock_after now after timing
        → IsOfTextsIn gives reads before texts clock clock_after after_discovery now after timing
    updated-in reads discovery after_discovery clock clock_after now after timing is same u =
        let discovered : Discovers finds (Static found) u.members u.settings =
        subst (λ d. Discovers finds d u.members u.settings) is u.discovered in
        record {
          taken = record {
            members = found;
            times = u.times;
            looked_up = made;
            keeps = same ∙ is;
            read = u.read;
            readings =
                subst (λ ms. length u.times ≡ (if same_members ms [] then 2 else 4)) discovered.0 (u.readings [] stands);
            registry = λ key_of events known.
                subst (λ ms. IsRegistryAfter gives key_of (registry_updated key_of (registered_after events + 1) ms [] (one_more events))
                after) discovered.0
                (subst (λ i. IsRegistryAfter gives key_of (registry_updated key_of i u.members [] (one_more events)) after)
                (id key_of events known)
                (u.registry key_of (one_more events) (registered key_of events known) [] stands));
          };
          timed = u.timed;
          stands = λ key_of events known.
              subst (λ ms. Stands (updated key_of (registered_after events + 1) ms [] (one_more events) []) now) discovered.0
              (subst (λ settings. Stands (updated key_of (registered_after events + 1) u.members settings (one_more events) []) now)
              discovered.1
              (subst (λ i. Stands (updated key_of i u.members u.settings (one_more events) []) now) (id key_of events known)
              (u.stands key_of (one_more events) (registered key_of events known) [] stands)));
        }
