-- By the laws of single steps and of single histories.
use Rattle.lb_world.specs.Meanings.{meaning_of}
use Rattle.lb_world.proofs.Kept.{keeps-promises}
use Rattle.lb_world.proofs.laws.promises.Goals as goal

pub returns : goal.returns
returns g c = λ h run. keeps-promises (meaning_of g.S.BackendSelection) g.met.S.BackendSelection.few_words h run
