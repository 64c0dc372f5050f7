use Rattle.lb_background.proofs.ServiceLemmas.{no_ready_without_check}
use Rattle.lb_background.proofs.laws.no_ready_without_check_law.Goals as goal

pub returns : goal.returns
returns c = no_ready_without_check
