-- What contracts see of a gate that threads share.
use Rattle.atomic_table.specs.Seated.{TableId}
use Rattle.lb_rebuild_core.specs.Gate.{GateId}

-- which gate it is, and which lock it is behind
pub record GateHandle : Type 0 where
  pub id : GateId
  pub lock : TableId
