use Rattle.lb_select.proofs.Removals.{addition_law as law}
use Rattle.lb_select.proofs.ring_laws.addition_law.Goals as goal

pub returns : goal.returns
returns c = law
