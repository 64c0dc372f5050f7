use Rattle.lb_select_base.proofs.SameBackends.{same_by_identity}
use Rattle.lb_select_base.proofs.laws.equal_by_identity_law.Goals as goal

pub returns : goal.returns
returns c = same_by_identity
