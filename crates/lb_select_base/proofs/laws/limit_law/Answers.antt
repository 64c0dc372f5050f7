use Rattle.lb_select_base.proofs.SelectionLaws.{limit_stays_met}
use Rattle.lb_select_base.proofs.laws.limit_law.Goals as goal

pub returns : goal.returns
returns g c = limit_stays_met _ _
