use Rattle.lb_select.proofs.Shares.{all_are_visited}
use Rattle.lb_select.proofs.weight_laws.all_are_visited.Goals as goal

pub returns : goal.returns
returns c = all_are_visited
