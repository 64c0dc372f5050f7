-- By cases on the step.
use Rattle.lb_world.specs.Meanings.{meaning_of}
use Rattle.lb_world.proofs.Sharing.{shares}
use Rattle.lb_world.proofs.laws.registries_follow_views.Goals as goal

pub returns : goal.returns
returns g c = λ h st a run. shares (meaning_of g.S.BackendSelection) h st a run
