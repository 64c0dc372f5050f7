-- By cases on the events and on the tests of the answer.
use Rattle.lb_rebuild_core.proofs.Telling.{tells, gets-job}
use Rattle.lb_rebuild_core.proofs.laws.answers_tell.Goals as goal

pub returns-clause-tells : goal.returns-clause-tells
returns-clause-tells c = tells

pub returns-clause-grants : goal.returns-clause-grants
returns-clause-grants c = gets-job
