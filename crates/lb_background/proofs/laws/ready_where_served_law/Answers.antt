use Rattle.lb_background.proofs.LawLemmas.{ready_where_served}
use Rattle.lb_background.proofs.laws.ready_where_served_law.Goals as goal

pub returns : goal.returns
returns c = ready_where_served
