-- What is held for a slot, of the program and as a history has it, and the tables of a world.
use Rattle.std.specs.Prelude.{ℕ}
use Rattle.lb_rebuild_core.specs.SlotsHistory.{History, granted, granted_members}
use Rattle.lb_rebuild_core.specs.Values.{Task}
use Rattle.lb_world.specs.History.{Work, idle}
use Rattle.lb_world.specs.History as work
use Rattle.lb_world.specs.Views.{WorkValue, nothing, building, built, Origin, WorldValue}
use Rattle.lb_world.specs.declared.held.Work as declared
use Rattle.lb_world.specs.declared.held.Work.TheVariants as is
use Rattle.lb_world.specs.declared.world.Tables.{Tables}

abbrev pub work_value : {S C W : Type 0} → declared.Work S C W → WorkValue C
work_value is.Nothing = nothing
work_value (is.Building j) = building j
work_value (is.Built b) = built b

-- the last job of a slot, after its past
abbrev pub last_job : {C : Type 0} → Origin → ℕ → C → History → Task C
last_job o slot c p =
    record {
      group = o.id;
      slot = slot;
      generation = granted p;
      members = granted_members p;
      config = c;
      permit = o.gate;
    }

abbrev pub held_of : {C : Type 0} → Origin → ℕ → C → History → Work → WorkValue C
held_of o slot c p idle = nothing
held_of o slot c p work.building = building (last_job o slot c p)
held_of o slot c p (work.built now) = built (record { task = last_job o slot c p; ended = now })

-- the tables of a world
abbrev pub world_value : {S C W : Type 0} → Tables S C W → WorldValue C
world_value w =
    record { registries = w.registries.items; gates = w.gates.items; groups = w.groups.items; readers = w.readers.items }
