use Rattle.lb_select.proofs.LeastVisits.{least_visits_all}
use Rattle.lb_select.proofs.weight_laws.least_visits_all.Goals as goal

pub returns : goal.returns
returns c = least_visits_all
