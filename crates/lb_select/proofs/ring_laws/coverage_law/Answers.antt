use Rattle.lb_select.proofs.Removals.{coverage_law as law}
use Rattle.lb_select.proofs.ring_laws.coverage_law.Goals as goal

pub returns : goal.returns
returns c = law
