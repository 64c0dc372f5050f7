use Rattle.lb_health_core.proofs.LawLemmas.{each_target}
use Rattle.lb_health_core.proofs.laws.targets_have_cells.Goals as goal

pub returns : goal.returns
returns c = each_target
