-- What a history did to a group and to its view, in the words of a group that is joined with its view.
use Rattle.std.specs.Prelude.{◌≡◌, ℕ, ◌+◌, ◌==◌, List, [], ◌∷◌, length, Option, Some, None, if◌then◌else◌}
use Rattle.lb_select_base.specs.Backends.{Member}
use Rattle.lb_health_core.specs.RegistryEvents.{shown_cells}
use Rattle.lb_health_view.specs.ViewEvents.{ViewEvent}
use Rattle.lb_rebuild_core.specs.SlotsHistory as slots
use Rattle.lb_rebuild_core.specs.GroupCalls.{after_schedule}
use Rattle.lb_rebuild_core.specs.GroupHistory as group
use Rattle.lb_rebuild_core.specs.GroupHistory.{Shown, Set}
use Rattle.lb_world.specs.Steps.{Step}
use Rattle.lb_world.specs.Steps as step
use Rattle.lb_world.specs.declared.answer.Answer.{Answer}
use Rattle.lb_world.specs.declared.answer.Answer.TheVariants as answer
use Rattle.lb_world.specs.declared.step.Listing.{Listing}
use Rattle.lb_world.specs.History.{History, Made, members_in, settings_in, made_at, registry_of, joined, slot_events}
use Rattle.lb_world.specs.Shared.{view_in, key_of, events_in}

-- the cells of generation n, as the events of a group with its view tell them
abbrev pub cells_in : ℕ → group.History → List (Member × ℕ)
cells_in n [] = []
cells_in n (Shown ms cells now ∷ e) = if slots.newest (group.slot_events e) + 1 == n then cells else cells_in n e
cells_in n (Set b on ∷ e) = cells_in n e
cells_in n (group.Cancelled ∷ e) = cells_in n e
cells_in n (group.At i x ∷ e) = cells_in n e

module _ {C : Type 0} where
  -- the cells that the members of an update get when they are shown
  abbrev pub cells_for : ℕ → List Listing → History C → List (Member × ℕ)
  cells_for g listings h = shown_cells (key_of g h) (view_in (made_at g h)) (members_in listings) (events_in (registry_of g h) h)

  -- what happened to a group that is joined with its view
  abbrev pub group_events : ℕ → History C → group.History
  group_events g h = joined cells_for g h

  -- the cells that the backends of generation n had when it was shown
  abbrev pub cells_of : ℕ → ℕ → History C → List (Member × ℕ)
  cells_of g n h = cells_in n (group_events g h)

  -- the view's events are among them: none before the group is made, and then those that its slots and its memberships give
  abbrev pub views_in : Option (Made C) → group.History → List ViewEvent
  views_in None e = []
  views_in (Some m) e = group.view_events (length m.configs) e

  -- what happened to the view of a group
  abbrev pub view_events : ℕ → History C → List ViewEvent
  view_events g h = views_in (made_at g h) (group_events g h)

  -- and so are the group's own, whatever the cells
  abbrev pub JoinsAlike : ℕ → History C → Type 0
  JoinsAlike g h = group.slot_events (group_events g h) ≡ slot_events g h

  -- what an update does, in the words of the call that does it
  abbrev pub Updated : History C → ℕ → ℕ → List Listing → Answer → Type 0
  Updated h g now listings a =
      group_events g ((step.update g now listings, a) ∷ h)
      ≡ after_schedule (key_of g h) (view_in (made_at g h)) (members_in listings) (settings_in listings) now (events_in (registry_of g h) h)
      (group_events g h)

  abbrev pub SchedulesAlike : History C → Step C → Answer → Type 0
  SchedulesAlike h (step.update g now listings) (answer.Generation n) = Updated h g now listings (answer.Generation n)
  SchedulesAlike h (step.update g now listings) (answer.Same n) = Updated h g now listings (answer.Same n)
  SchedulesAlike h st a = Unit {0}
