use Rattle.lb_select.proofs.Owners.{ring_law as law}
use Rattle.lb_select.proofs.ring_laws.ring_law.Goals as goal

pub returns : goal.returns
returns c = law
