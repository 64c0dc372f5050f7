use Rattle.std.proofs.Common.{rules}
use Rattle.lb_select.specs.Crc.{crc}
use Rattle.lb_select.proofs.crc.crc32.Goals as goal

pub returns : goal.returns
unfolding crc
returns c = search rules
