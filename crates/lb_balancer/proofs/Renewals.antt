-- What a balancer does to its registry lengthens that's history.
use Rattle.std.specs.Prelude.{Result, Ok, Err, OnOk, OnErr, List, ◌∷◌}
use Rattle.lb_select_base.specs.Backends.{Member}
use Rattle.lb_health_core.specs.Registry.{RegistryValue, IsRegistryAfter, KeepsHistory}
use Rattle.lb_health_core.specs.RegistryEvents.{Event, Marked, Released}
use Rattle.lb_health_view.specs.Views.{IsFounded, IsViewAfter}
use Rattle.lb_health_view.specs.RegistrySide.{registry_updated}
use Rattle.lb_health_view.specs.Snapshots.{ViewValue}
use Rattle.lb_health_view.specs.ViewEvents.{ViewEvent, generation_after}
use Rattle.lb_threads_core.specs.Registry.{IsRegistryOf}
use Rattle.lb_threads_core.proofs.Histories.{changed, lengthened, no_more, one_more, stays}

module _ {R : Type 0} {gives : R → Member → Member → Type 0} where
  -- another membership is shown, or refused
  pub renewed_later : {A E : Type 0} (r : Result A E) (v : ViewValue) (members : List Member) {x y : RegistryValue R} → IsFounded v
      → OnOk r ((key_of : Member → Member) (views : List ViewEvent) (events : List Event) → IsViewAfter views v
      → IsRegistryAfter gives key_of events x → IsRegistryAfter gives key_of (registry_updated key_of v.id members views events) y)
      → OnErr r (KeepsHistory gives x y) → IsRegistryOf gives x y
  renewed_later (Ok a) v members p ok err =
      lengthened (λ key_of events. registry_updated key_of v.id members p.0 events)
      (λ key_of events. changed key_of v.id members p.0 events)
      (λ key_of events after. ok key_of p.0 events p.1 after)
  renewed_later (Err a) v members p ok err = stays err

  -- the view is marked, and its newest generation released
  pub left_later : (v : ViewValue) {x y : RegistryValue R} → IsFounded v
      → ((key_of : Member → Member) (views : List ViewEvent) (events : List Event) → IsViewAfter views v
      → IsRegistryAfter gives key_of events x
      → IsRegistryAfter gives key_of (Released v.id (generation_after views) ∷ Marked v.id ∷ events) y)
      → IsRegistryOf gives x y
  left_later v p leaves =
      lengthened (λ key_of events. Released v.id (generation_after p.0) ∷ Marked v.id ∷ events)
      (λ key_of events. one_more (Released v.id (generation_after p.0)) (one_more (Marked v.id) (no_more events)))
      (λ key_of events after. leaves key_of p.0 events p.1 after)
