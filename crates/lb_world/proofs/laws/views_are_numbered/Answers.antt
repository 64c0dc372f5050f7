-- By induction over the steps.
use Rattle.lb_world.specs.Meanings.{meaning_of}
use Rattle.lb_world.proofs.Numbering.{numbered}
use Rattle.lb_world.proofs.laws.views_are_numbered.Goals as goal

pub returns : goal.returns
returns g c = λ h run r there. numbered (meaning_of g.S.BackendSelection) h run r there
