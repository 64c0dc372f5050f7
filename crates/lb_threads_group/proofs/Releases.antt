-- Calls of a group lengthen the history of the registry that it is over.
use Rattle.std.specs.Prelude.{ℕ, List, ◌∷◌, Result, Ok, Err, OnOk, OnErr}
use Rattle.lb_select_base.specs.Backends.{Member}
use Rattle.lb_health_core.specs.Registry.{RegistryValue, IsRegistryAfter, KeepsHistory}
use Rattle.lb_health_core.specs.RegistryEvents.{Event}
use Rattle.lb_health_view.specs.RegistrySide.{registry_updated}
use Rattle.lb_health_view.specs.ViewEvents as view
use Rattle.lb_health_view.specs.ViewEvents.{ViewEvent}
use Rattle.lb_rebuild_core.specs.Stands.{Made}
use Rattle.lb_rebuild_core.specs.GroupCalls.{IsReleasedWhere, released_where}
use Rattle.lb_rebuild_core.specs.GroupHistory.{History}
use Rattle.lb_rebuild_core.specs.GroupStates.{GroupValue, IsFounded, After, views_of}
use Rattle.lb_threads_core.specs.Registry.{IsRegistryOf}
use Rattle.lb_threads_core.proofs.Histories.{Longer, changed, lengthened, no_more, released, stays}

let_go : {A B : Type 0} (a : Result A B) (id g : ℕ) (views : List ViewEvent) (events : List Event)
    → Longer events (released_where a id g views events)
let_go (Ok x) id g views events = released id g (view.Released g ∷ views) events events (no_more events)
let_go (Err x) id g views events = no_more events

module _ {R : Type 0} {gives : R → Member → Member → Type 0} where
  module _ {C : Type 0} where
    -- a snapshot of a group that has a history is released
    pub released_later : {A B : Type 0} (a : Result A B) (v : GroupValue C) (generation : Made C → History → ℕ) {x y : RegistryValue R}
        → IsFounded v → IsReleasedWhere gives a v generation x y → IsRegistryOf gives x y
    released_later a v generation p is =
        let made = p.0 in
        let e = p.1.0 in
        lengthened (λ key_of events. released_where a v.view.id (generation made e) (views_of made e) events)
        (λ key_of events. let_go a v.view.id (generation made e) (views_of made e) events)
        (λ key_of events after. is key_of events after made e p.1.1)

    -- a membership is scheduled, or refused
    pub scheduled_later : {A E : Type 0} (r : Result A E) (v : GroupValue C) (members : List Member) {x y : RegistryValue R} → IsFounded v
        → OnOk r ((key_of : Member → Member) (events : List Event) → IsRegistryAfter gives key_of events x
        → After v (λ made e. IsRegistryAfter gives key_of (registry_updated key_of v.view.id members (views_of made e) events) y))
        → OnErr r (KeepsHistory gives x y) → IsRegistryOf gives x y
    scheduled_later (Ok a) v members p ok err =
        let made = p.0 in
        let e = p.1.0 in
        lengthened (λ key_of events. registry_updated key_of v.view.id members (views_of made e) events)
        (λ key_of events. changed key_of v.view.id members (views_of made e) events)
        (λ key_of events after. ok key_of events after made e p.1.1)
    scheduled_later (Err a) v members p ok err = stays err
