use Rattle.lb_select.proofs.Shares.{consecutive}
use Rattle.lb_select.proofs.weight_laws.tickets_are_consecutive.Goals as goal

pub returns : goal.returns
returns g c = consecutive _ _ _
