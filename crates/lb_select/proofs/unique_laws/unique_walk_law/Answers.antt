use Rattle.lb_select.proofs.UniqueTurns.{turns_are_one_walk}
use Rattle.lb_select.proofs.unique_laws.unique_walk_law.Goals as goal

pub returns : goal.returns
returns g c = λ i. turns_are_one_walk _ _ g.met.I.BackendIter.starts _
