use Rattle.lb_select.proofs.Shares.{weights_are_exact}
use Rattle.lb_select.proofs.weight_laws.weights_are_exact.Goals as goal

pub returns : goal.returns
returns c = weights_are_exact
