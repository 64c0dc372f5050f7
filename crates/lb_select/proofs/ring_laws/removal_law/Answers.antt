use Rattle.lb_select.proofs.Removals.{removal_law as law}
use Rattle.lb_select.proofs.ring_laws.removal_law.Goals as goal

pub returns : goal.returns
returns c = law
