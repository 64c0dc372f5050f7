-- By induction over the steps.
use Rattle.lb_world.specs.Meanings.{meaning_of}
use Rattle.lb_world.proofs.Runs.{slots-fit}
use Rattle.lb_world.proofs.laws.pasts_can_happen.Goals as goal

pub returns : goal.returns
returns g c = λ h run i r. (slots-fit (meaning_of g.S.BackendSelection) h run i r).0
