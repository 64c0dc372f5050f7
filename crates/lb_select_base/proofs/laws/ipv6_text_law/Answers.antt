use Rattle.std.proofs.Common.{arith}
use Rattle.lb_select_base.proofs.AddressRoundTrip.{ipv6_back}
use Rattle.lb_select_base.proofs.laws.ipv6_text_law.Goals as goal

pub returns : goal.returns
returns c = ipv6_back _ _ c.requires (λ k. omega (arith, c.type_inv.octets k)) (omega arith)
