use Rattle.lb_select.specs.Crc.{crc-check}
use Rattle.lb_select.proofs.ring_laws.check_value_law.Goals as goal

pub returns : goal.returns
returns c = crc-check
