-- By induction over the steps.
use Rattle.lb_world.specs.Meanings.{meaning_of}
use Rattle.lb_world.proofs.Registered.{is-registered}
use Rattle.lb_world.proofs.laws.views_stay_registered.Goals as goal

pub returns : goal.returns
returns g c = λ h run i. is-registered (meaning_of g.S.BackendSelection) h run i
