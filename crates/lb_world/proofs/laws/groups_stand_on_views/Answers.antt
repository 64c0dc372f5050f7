-- By induction over the steps.
use Rattle.lb_world.specs.Meanings.{meaning_of}
use Rattle.lb_world.proofs.Together.{joins-alike, schedules-alike}
use Rattle.lb_world.proofs.laws.groups_stand_on_views.Goals as goal

pub returns-clause-now : goal.returns-clause-now
returns-clause-now g c = λ h run i. joins-alike (meaning_of g.S.BackendSelection) h run i

pub returns-clause-updates : goal.returns-clause-updates
returns-clause-updates g c = λ h st a run. schedules-alike (meaning_of g.S.BackendSelection) h st a run
