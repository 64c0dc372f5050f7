use Rattle.std.proofs.Common.{arith}
use Rattle.lb_select.proofs.Crcs.{step_by_table}
use Rattle.lb_select.proofs.crc.state_after_byte.Goals as goal

pub returns : goal.returns
returns c = rw c.from.ensures (step_by_table c.args.state c.args.byte (omega arith))
