-- By cases on the events and on the tests of the answer.
use Rattle.lb_rebuild_core.proofs.Telling.{bounded, rises}
use Rattle.lb_rebuild_core.proofs.laws.served_rises.Goals as goal

pub returns-clause-bounded : goal.returns-clause-bounded
returns-clause-bounded c = bounded

pub returns-clause-rises : goal.returns-clause-rises
returns-clause-rises c = rises
