-- By induction over the steps.
use Rattle.lb_world.specs.Meanings.{meaning_of}
use Rattle.lb_world.proofs.Absent.{absent}
use Rattle.lb_world.proofs.laws.absent_groups.Goals as goal

pub returns : goal.returns
returns g c = λ h run i none. absent (meaning_of g.S.BackendSelection) h run i none
