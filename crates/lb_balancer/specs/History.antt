-- What a balancer that threads share may serve and show: what some of its own updates left. Other threads go on changing it, so a call is
-- made at some state of it.
use Rattle.std.specs.Prelude.{◌≡◌, ◌<◌, ◌≤◌, ⊤, ℕ, Bool, List, []}
use Rattle.lb_select_base.specs.Backends.{Member}
use Rattle.lb_health_core.specs.Registry.{RegistryValue}
use Rattle.lb_health_view.specs.Discoveries.{Discovers}
use Rattle.lb_health_view.specs.declared.discovery.DiscoverySource.{DiscoverySource}
use Rattle.lb_health_view.specs.RegistrySide.{HasCellIn}
use Rattle.lb_health_view.specs.ViewEvents.{ViewEvent, generation_after, membership_after}
use Rattle.lb_health_view.specs.Views.{IsViewAfter}
use Rattle.lb_balancer_core.specs.Balancer.{IsJudged}
use Rattle.lb_balancer_core.specs.ServedViews.{ServedViewValue}
use Rattle.lb_threads_core.specs.Registry.{IsRegistryOf}
use Rattle.lb_balancer.specs.Shown.{AreUnready, ShownValue, ShowsView}

-- what a caller knows of a balancer: its discovery, what its selectors are built with, the generation at which it was made, the number of
-- its view, and the registry that the view is in, as it was when it came under its lock
pub record BalancerValue (D C R : Type 0) : Type 0 where
  pub discovery : DiscoverySource D
  pub config : C
  pub first : ℕ
  pub view_id : ℕ
  pub registry : RegistryValue R

-- What a discovery may give, as far as a lock's fact can say it: a set that stays gives itself. What a caller's discovery says of itself
-- (`finds`) isn't in it, since the type of a lock can't rest on the contract of a boxed one.
abbrev pub MayGive : {D : Type 0} → DiscoverySource D → List Member → List (Member × Bool) → Type 0
MayGive {D} discovery members settings = Discovers {D = D} (λ _ _. ⊤) discovery members settings

-- Generation and members belong together: generation 0 has none, and those of another one are what the discovery may give, with some
-- settings (`∥ ∥₁`: which ones isn't said).
pub record AreDiscovered {D : Type 0} (discovery : DiscoverySource D) (generation : ℕ) (members : List Member) : Type 0 where
  pub none : generation ≡ 0 → members ≡ []
  pub some : 0 < generation → ∥ ((settings : List (Member × Bool)) × MayGive discovery members settings) ∥₁

module _ {D C R : Type 0} (b : BalancerValue D C R) where
  -- what the balancer may serve: its view, whose newest membership was discovered, and a selector that is built with its configuration
  pub record IsServedBy (s : ServedViewValue C) : Type 0 where
    pub config : s.config ≡ b.config
    pub id : s.view.id ≡ b.view_id
    pub views : List ViewEvent
    pub view : IsViewAfter views s.view
    pub first : b.first ≤ generation_after views
    pub discovered : AreDiscovered b.discovery (generation_after views) (membership_after views)

  -- a generation that the balancer may serve, read of what it served at that moment
  abbrev pub IsServedGeneration : ℕ → Type 0
  IsServedGeneration n =
      (s : ServedViewValue C) × IsServedBy s
      × ((views : List ViewEvent) → IsViewAfter views s.view → n ≡ generation_after views)

  -- the cell that the membership of a generation has for a backend, and whether the backend is enabled, at some state of what the balancer
  -- serves, which was this generation
  abbrev pub FlaggedIn : ℕ → Member → ℕ → Bool → Type 0
  FlaggedIn n m c enabled =
      (s : ServedViewValue C) × (IsServedBy s
      × (((views : List ViewEvent) → IsViewAfter views s.view → n ≡ generation_after views)
      × ((views : List ViewEvent) → IsViewAfter views s.view → HasCellIn views (generation_after views) m c enabled)))

  -- a call that was made at some state of what the balancer serves, and left one
  abbrev pub UnderServing : (ServedViewValue C → ServedViewValue C → Type 0) → Type 0
  UnderServing Call = (s : ServedViewValue C) × ((t : ServedViewValue C) × (IsServedBy s × (IsServedBy t × Call s t)))

module _ {R : Type 0} (gives : R → Member → Member → Type 0) {D C : Type 0} (b : BalancerValue D C R) where
  -- whether a backend was ready in the membership of a generation, at some state of what the balancer serves, which was this generation,
  -- and of its registry
  abbrev pub JudgedIn : ℕ → Member → Bool → Type 0
  JudgedIn n m ready =
      (s : ServedViewValue C) × (IsServedBy b s
      × (((views : List ViewEvent) → IsViewAfter views s.view → n ≡ generation_after views)
      × ((cells : RegistryValue R) × (IsRegistryOf gives b.registry cells × IsJudged gives s.view cells m ready))))

  -- the same of the newest membership, whichever that was
  abbrev pub JudgedBy : Member → Bool → Type 0
  JudgedBy m ready = (n : ℕ) × JudgedIn n m ready

  -- what the balancer may show: members that were discovered, and a selector that is built with its configuration; and at some state of
  -- what it served and of its registry, these were the newest members, and those of them that weren't ready
  pub record IsShownBy (s : ShownValue C) : Type 0 where
    pub config : s.config ≡ b.config
    pub first : b.first ≤ s.generation
    pub discovered : AreDiscovered b.discovery s.generation s.members
    pub served : ServedViewValue C
    pub was_served : IsServedBy b served
    pub shows : ShowsView served.view s
    pub cells : RegistryValue R
    pub was_registry : IsRegistryOf gives b.registry cells
    pub judged : AreUnready (IsJudged gives served.view cells) s.members s.unready
