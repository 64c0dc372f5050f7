use Rattle.lb_select_base.proofs.SelectionLaws.{end_stays_met}
use Rattle.lb_select_base.proofs.laws.end_law.Goals as goal

pub returns : goal.returns
returns g c = end_stays_met _ _ g.met.I.BackendIter.starts g.met.I.BackendIter.ends
