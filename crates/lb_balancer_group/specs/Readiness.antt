-- What reading the slots of a group one after another shows, while others may publish; and how the sleeps of a driven run end.
use Rattle.std.specs.Prelude.{◌≡◌, ◌⊎◌, ◌<◌, ◌≤◌, ◌+◌, ◌^◌, ℕ, Option, Some, None}
use Rattle.lb_rebuild_core.specs.SlotsHistory.{served}
use Rattle.lb_rebuild_core.specs.GroupStates.{GroupValue}
use Rattle.lb_threads_group.specs.Numbers.{SawOfSlot}
use Rattle.lb_background.specs.declared.event.Event.{Event}
use Rattle.lb_background.specs.declared.event.Event.TheVariants as on

module _ {C : Type 0} (site : GroupValue C) where
  -- each slot below n was seen to serve that generation or a newer one
  abbrev pub ServeFrom : ℕ → ℕ → Type 0
  ServeFrom n generation = (slot : ℕ) → slot < n → (g : ℕ) × SawOfSlot served site slot (Some g) × (generation ≤ g)

  -- the same of all slots that are there: no slot n was seen, or there can be no more slots
  abbrev pub AllServe : ℕ → Type 0
  AllServe generation = (n : ℕ) × (SawOfSlot served site n None ⊎ (n + 1 ≡ 2 ^ 64)) × ServeFrom n generation

  -- a slot was seen to serve an older one
  abbrev pub OneLags : ℕ → Type 0
  OneLags generation = (slot : ℕ) × (g : ℕ) × SawOfSlot served site slot (Some g) × (g < generation)

abbrev pub EndsSleep : Event → Type 0
EndsSleep e = (e ≡ on.Woke) ⊎ (e ≡ on.Rebuilt) ⊎ (e ≡ on.Shutdown)
