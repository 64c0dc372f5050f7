use Rattle.lb_select.proofs.Removals.{raising_law as law}
use Rattle.lb_select.proofs.ring_laws.raising_law.Goals as goal

pub returns : goal.returns
returns c = law
