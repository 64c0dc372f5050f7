-- A world as contracts see it: its tables as plain lists, with what is held for each slot and each reader.
use Rattle.std.specs.Prelude.{◌≡◌, ℕ, List, Option}
use Rattle.lb_select_base.specs.Backends.{Member}
use Rattle.lb_rebuild_core.specs.Gate.{GateId, GateValue, GroupId}
use Rattle.lb_health_core.specs.Registry.{RegistryValue}
use Rattle.lb_rebuild_core.specs.Values.{Task, BuiltValue, ReaderValue, configs_of}
use Rattle.lb_rebuild_core.specs.Stands as slots
use Rattle.lb_rebuild_core.specs.GroupStates.{GroupValue}
use Rattle.lb_world.specs.History.{Entered}
use Rattle.lb_world.specs.Rules.{WorldRule}

-- what is held for a slot: nothing, a job, or what was built of it
pub data WorkValue (C : Type 0) : Type 0 where
  nothing : WorkValue C
  building : Task C → WorkValue C
  built : BuiltValue C → WorkValue C

abbrev pub NotBuilding : {C : Type 0} → WorkValue C → Type 0
NotBuilding nothing = Unit {0}
NotBuilding (building t) = ⊥
NotBuilding (built b) = Unit {0}

abbrev pub NotBuilt : {C : Type 0} → WorkValue C → Type 0
NotBuilt nothing = Unit {0}
NotBuilt (building t) = Unit {0}
NotBuilt (built b) = ⊥

-- a reader with the number of its group
pub record OpenReaderValue (C : Type 0) : Type 0 where
  pub group : ℕ
  pub reader : ReaderValue C

abbrev pub entered_of : {C : Type 0} → OpenReaderValue C → Entered
entered_of r = record { group = r.group; slot = r.reader.slot; generation = r.reader.generation }

-- a group with the numbers of its registry and its gate, what is held for its slots, and its loads
pub record EntryValue (C : Type 0) : Type 0 where
  pub registry : ℕ
  pub gate : ℕ
  pub core : GroupValue C
  pub works : List (WorkValue C)
  pub loads : List (Member × ℕ)

pub record WorldValue (C : Type 0) : Type 0 where
  pub registries : List (RegistryValue WorldRule)
  pub gates : List GateValue
  pub groups : List (EntryValue C)
  pub readers : List (Option (OpenReaderValue C))

-- what a group was made with, by its core
abbrev pub site : {C : Type 0} → GroupValue C → slots.Made C
site v = record { id = v.group.id; gate = v.group.gate; configs = configs_of v.group }

-- whose a group's jobs are: which group it is, and the gate of their permits
pub record Origin : Type 0 where
  pub id : GroupId
  pub gate : GateId

abbrev pub origin : {C : Type 0} → GroupValue C → Origin
origin v = record { id = v.group.id; gate = v.group.gate }

-- a reader is one of this group
abbrev pub IsOwnReader : {C : Type 0} → GroupValue C → ReaderValue C → Type 0
IsOwnReader v r = r.group ≡ v.group.id
