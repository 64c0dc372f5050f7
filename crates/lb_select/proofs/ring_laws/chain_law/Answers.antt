use Rattle.lb_select.proofs.Removals.{chain_law as law}
use Rattle.lb_select.proofs.ring_laws.chain_law.Goals as goal

pub returns : goal.returns
returns c = law
