use Rattle.lb_background.proofs.ScheduleLemmas.{finishes}
use Rattle.lb_background.proofs.laws.finishes_law.Goals as goal

pub returns : goal.returns
returns c = finishes
