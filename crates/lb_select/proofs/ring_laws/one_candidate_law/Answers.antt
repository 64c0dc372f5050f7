use Rattle.lb_select.proofs.Removals.{one_candidate_law as law}
use Rattle.lb_select.proofs.ring_laws.one_candidate_law.Goals as goal

pub returns : goal.returns
returns c = law
