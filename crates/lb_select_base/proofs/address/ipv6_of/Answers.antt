use Rattle.std.proofs.Common.{arith}
use Rattle.lb_select_base.proofs.AddressTexts.{octets_back}
use Rattle.lb_select_base.proofs.address.ipv6_of.Goals as goal

pub returns : goal.returns
returns c = rw c.from_octets.ensures (octets_back _ (omega arith) c.fits-octets)
