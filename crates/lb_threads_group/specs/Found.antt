-- What is known of which backends are ready for the readers of a generation, each at some state of group and registry: by the cell and the
-- flag that the group had for it, and by the cell's health in the registry. Readiness is the same for all readers of a generation.
use Rattle.std.specs.Prelude.{◌≡◌, ◌↔◌, ℕ, Bool, List, true, IsTrue}
use Rattle.lb_select_base.specs.Backends.{Member}
use Rattle.lb_health_core.specs.Registry.{HoldsOf}
use Rattle.lb_health_view.specs.RegistrySide.{HasCellIn, IsReady}
use Rattle.lb_rebuild_core.specs.GroupHistory.{members_now, slot_events}
use Rattle.lb_rebuild_core.specs.GroupStates.{After, views_of}
use Rattle.lb_rebuild_core.specs.SlotsHistory.{newest}
use Rattle.lb_threads_group.specs.Group.{NewestReadyUnder, Seen, SeenBeside}
use Rattle.lb_threads_group.specs.Shared.{SharedValue}

-- of which group and registry, and of which generation the words are
pub record FoundValue (C R : Type 0) : Type 0 where
  pub site : SharedValue C R
  pub generation : ℕ

module _ {C R : Type 0} where
  -- these were the members of the newest generation
  abbrev pub WereNewest : SharedValue C R → List Member → Type 0
  WereNewest site members = Seen site.core (λ v. After v (λ made e. members ≡ members_now e))

  -- words of this group, and what were its newest members
  abbrev pub AreNewest : SharedValue C R → FoundValue C R → List Member → Type 0
  AreNewest site found members = (found.site ≡ site) × WereNewest site members

  -- the cell that the snapshot of a generation has for a backend, whether the backend is enabled, and, where it was found so, that the
  -- generation is the newest
  abbrev pub FlaggedAt : SharedValue C R → ℕ → Member → ℕ → Bool → Bool → Type 0
  FlaggedAt site g b c enabled is_newest =
      Seen site.core (λ v. After v (λ made e. HasCellIn (views_of made e) g b c enabled
      × (is_newest ≡ true → newest (slot_events e) ≡ g)))

module _ {C R : Type 0} (gives : R → Member → Member → Type 0) where
  -- whether a backend is ready in the snapshot of a generation
  abbrev pub ReadyAt : SharedValue C R → ℕ → Member → Bool → Type 0
  ReadyAt site g b a =
      SeenBeside gives site (λ v x. HoldsOf gives x (λ key_of events. After v (λ made e. IsTrue a
      ↔ IsReady key_of (views_of made e) events g b)))

  -- the same, and in the newest membership, where it was found of that one
  abbrev pub FoundAt : SharedValue C R → ℕ → Member → Bool → Bool → Type 0
  FoundAt site g b a is_newest = ReadyAt site g b a × (is_newest ≡ true → NewestReadyUnder gives site b a)
