use Rattle.lb_health_core.proofs.LawLemmas.{kept_cell}
use Rattle.lb_health_core.proofs.laws.targets_keep_their_cells.Goals as goal

pub returns : goal.returns
returns c = kept_cell
