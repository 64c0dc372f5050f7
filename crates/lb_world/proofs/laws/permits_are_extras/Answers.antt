-- By whose extra a gate's permit is out for.
use Rattle.lb_world.specs.Meanings.{meaning_of}
use Rattle.lb_world.proofs.Counting.{permits-out}
use Rattle.lb_world.proofs.laws.permits_are_extras.Goals as goal

pub returns : goal.returns
returns g c = λ h run. permits-out (meaning_of g.S.BackendSelection) h run
