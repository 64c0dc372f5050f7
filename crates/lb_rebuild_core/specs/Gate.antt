-- What contracts see of a gate of rebuilds, of its permit, and of a group's identity.
use Rattle.std.specs.Prelude.{Bool, true, false, Option, Some, None}
use Rattle.std.specs.Coded.{Coded}
use Rattle.atomic_table.specs.Seated.{TableId, table_id_coded}

-- which gate it is: no two gates have the same one. Clauses compare it and look at nothing inside
abbrev pub GateId : Type 0
GateId = TableId

abbrev pub gate_id_coded : Coded GateId
gate_id_coded = table_id_coded

-- which gate it is, and whether its permit is out
pub record GateValue : Type 0 where
  pub id : GateId
  pub out : Bool

-- the gate of that identity, with its permit out or not
abbrev pub gate : GateId → Bool → GateValue
gate id out = record { id = id; out = out }

-- whether there is no value
abbrev pub is_absent : {A : Type 0} → Option A → Bool
is_absent None = true
is_absent (Some x) = false

-- which group it is: no two groups have the same one. Clauses compare it and look at nothing inside
abbrev pub GroupId : Type 0
GroupId = TableId

abbrev pub group_id_coded : Coded GroupId
group_id_coded = table_id_coded
