-- Each recursion goes on past a step that is not its own.
use Rattle.lb_world.proofs.Steps.{others-stay}
use Rattle.lb_world.proofs.laws.others_stay.Goals as goal

pub returns : goal.returns
returns g c = λ h st a. others-stay h st a
