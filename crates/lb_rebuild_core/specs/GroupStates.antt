-- What contracts see of a group that is joined with its view, and what it is after a history.
use Rattle.std.specs.Prelude.{◌≡◌, ◌^◌, ◌<◌, ℕ, List, length, ◌++◌}
use Rattle.lb_rebuild_core.specs.Stands as slots
use Rattle.lb_rebuild_core.specs.Stands.{Made}
use Rattle.lb_rebuild_core.specs.Values.{SlotsValue}
use Rattle.lb_health_view.specs.Snapshots.{ViewValue}
use Rattle.lb_health_view.specs.ViewEvents.{ViewEvent}
use Rattle.lb_health_view.specs.Views.{IsViewAfter}
use Rattle.lb_rebuild_core.specs.GroupHistory.{History, slot_events, view_events}

-- the slots with what they serve and build, the view whose memberships they build from, and which registry the view is of
pub record GroupValue (C : Type 0) : Type 0 where
  pub group : SlotsValue C
  pub view : ViewValue
  pub registry : ℕ

-- group and view are as this history left them, for a group that was made so
pub record Stands {C : Type 0} (made : Made C) (e : History) (v : GroupValue C) : Type 0 where
  pub few : length made.configs < 2 ^ 64
  pub group : slots.StandsFor made (slot_events e) v.group
  pub view : IsViewAfter (view_events (length made.configs) e) v.view

-- some history explains it
abbrev pub IsFounded : {C : Type 0} → GroupValue C → Type 0
IsFounded {C} v = (made : Made C) × ((e : History) × Stands made e v)

-- what holds after each history that explains it
abbrev pub After : {C : Type 0} → GroupValue C → (Made C → History → Type 0) → Type 0
After {C} v P = (made : Made C) (e : History) → Stands made e v → P made e

-- after each history that explains the first, the same with these events explains the second
abbrev pub Becomes : {C : Type 0} → GroupValue C → History → GroupValue C → Type 0
Becomes v events w = After v (λ made e. Stands made (events ++ e) w)

-- what no call changes: gate and configurations of the group, and the number of the view in which registry
pub record SameSite {C : Type 0} (v w : GroupValue C) : Type 0 where
  pub group : slots.SameSite v.group w.group
  pub id : w.view.id ≡ v.view.id
  pub registry : w.registry ≡ v.registry

-- the history of the view of a group that was made so
abbrev pub views_of : {C : Type 0} → Made C → History → List ViewEvent
views_of made e = view_events (length made.configs) e
