use Rattle.lb_background.proofs.LawLemmas.{ready_after_update}
use Rattle.lb_background.proofs.laws.ready_after_update_law.Goals as goal

pub returns : goal.returns
returns c = ready_after_update
