-- What a history did to each registry, in the words of the registry's own events. A snapshot of a view lives while it is the newest
-- or some slot holds it, which the events of its group tell: so the events of a registry need no view.
use Rattle.std.specs.Prelude.{ℕ, ◌+◌, Bool, true, false, ◌||◌, ◌==◌, nat_lt, List, [], ◌∷◌, length, Option, Some, None}
use Rattle.std.specs.Prelude.{if◌then◌else◌, slice_get}
use Rattle.lb_select_base.specs.Backends.{Member}
use Rattle.lb_health_core.specs.Keys.{by_identity, by_address}
use Rattle.lb_health_core.specs.RegistryEvents as registry
use Rattle.lb_rebuild_core.specs.SlotsHistory as slots
use Rattle.lb_rebuild_core.specs.GroupHistory.{holders}
use Rattle.lb_world.specs.Steps.{Step}
use Rattle.lb_world.specs.declared.step.CellKey.{CellKey}
use Rattle.lb_world.specs.declared.step.CellKey.TheVariants.{Identity, Address}
use Rattle.lb_world.specs.Steps as step
use Rattle.lb_world.specs.declared.answer.Answer.{Answer}
use Rattle.lb_world.specs.declared.answer.Answer.TheVariants as answer
use Rattle.lb_world.specs.History.{History, RegistryMade, Made, is_at, members_in, registries, made_at, registry_of, group_at}
use Rattle.lb_world.specs.History.{slot_events, past}

-- the key of a backend by a registry's rule
abbrev pub key_by : CellKey → Member → Member
key_by Identity = by_identity
key_by Address = by_address

abbrev pub key_in : Option RegistryMade → Member → Member
key_in None = by_identity
key_in (Some m) = key_by m.rule

-- how a registry starts
abbrev pub started : Bool → List registry.Event
started true = []
started false = registry.Configured false ∷ []

-- a generation lives while it is the newest or some slot has it in use: it is served, in a flight or a lost flight, or retired
abbrev pub is_live : {C : Type 0} → ℕ → List C → slots.History → Bool
is_live n configs k = slots.newest k == n || nat_lt 0 (holders n (length configs) k)

-- what a group was made with, in parts
abbrev pub configs_in : {C : Type 0} → Option (Made C) → List C
configs_in None = []
configs_in (Some m) = m.configs

abbrev pub view_in : {C : Type 0} → Option (Made C) → ℕ
view_in None = 0
view_in (Some m) = m.view

module _ {C : Type 0} where
  abbrev pub registry_made : Option ℕ → History C → Option RegistryMade
  registry_made None h = None
  registry_made (Some r) h = slice_get (registries h) r

  abbrev pub key_at : ℕ → History C → Member → Member
  key_at r h = key_in (slice_get (registries h) r)

  -- the registry that a step is at: that of its group, or the one that it names
  abbrev pub registry_in : History C → Option ℕ → Option ℕ
  registry_in h None = None
  registry_in h (Some g) = registry_of g h

  abbrev pub registry_at : History C → Step C → Option ℕ
  registry_at h (step.registry rule healthy) = Some (length (registries h))
  registry_at h (step.group r a configs) = Some r
  registry_at h (step.targets r) = Some r
  registry_at h (step.verdict r c ok threshold) = Some r
  registry_at h st = registry_in h (group_at h st)

  -- the registry lets go of a generation that no longer lives in its group
  abbrev pub let_go : ℕ → ℕ → History C → List registry.Event → List registry.Event
  let_go g n h events =
      if is_live n (configs_in (made_at g h)) (slot_events g h) then events else registry.Released (view_in (made_at g h)) n ∷ events

  -- the generation of a slot's extra
  abbrev pub extra_at : ℕ → ℕ → History C → ℕ
  extra_at g s h = slots.generation_of (slots.extra (past g s h))

  -- What a step did to its registry, by its answer, where `now` is the history with the step.
  abbrev pub changed : History C → History C → Step C → Answer → List registry.Event → List registry.Event
  changed h now (step.registry rule healthy) (answer.Registry n) events = started healthy
  changed h now (step.group r a configs) (answer.Group n) events = registry.Applied ∷ registry.Registered ∷ events
  changed h now (step.update g at listings) (answer.Generation n) events =
      let_go g (slots.newest (slot_events g h)) now
      (registry.after_show (view_in (made_at g h)) (slots.newest (slot_events g h) + 1) (members_in listings) events)
  changed h now (step.build g s at) (answer.BuildFailed n r) events = let_go g (extra_at g s h) now events
  changed h now (step.failbuild g s at) (answer.Failed n) events = let_go g (extra_at g s h) now events
  changed h now (step.destroy g s) answer.Destroyed events = let_go g (extra_at g s h) now events
  changed h now (step.cancel g) answer.Cancelled events = registry.Marked (view_in (made_at g h)) ∷ events
  changed h now (step.targets r) (answer.Targets ts) events = registry.Applied ∷ events
  changed h now (step.verdict r c ok threshold) (answer.Flipped b) events =
      registry.Observed c (record { ok = ok; threshold = threshold }) ∷ events
  changed h now st a events = events

  -- what happened to a registry
  abbrev pub registry_events : ℕ → History C → List registry.Event
  registry_events r [] = []
  registry_events r ((st, a) ∷ h) =
      if is_at r (registry_at h st) then changed h ((st, a) ∷ h) st a (registry_events r h) else registry_events r h

  -- the registry of a group
  abbrev pub events_in : Option ℕ → History C → List registry.Event
  events_in None h = []
  events_in (Some r) h = registry_events r h

  abbrev pub key_of : ℕ → History C → Member → Member
  key_of g h = key_in (registry_made (registry_of g h) h)
