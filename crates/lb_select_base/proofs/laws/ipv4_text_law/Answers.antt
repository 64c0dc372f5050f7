use Rattle.std.proofs.Common.{arith}
use Rattle.lb_select_base.proofs.AddressRoundTrip.{ipv4_back}
use Rattle.lb_select_base.proofs.laws.ipv4_text_law.Goals as goal

pub returns : goal.returns
returns c = ipv4_back _ _ c.requires (λ k. omega (arith, c.type_inv.octets k)) (omega arith)
