-- By cases on the events.
use Rattle.lb_rebuild_core.proofs.Tasks.{goes-out, stays}
use Rattle.lb_rebuild_core.proofs.laws.tasks_stay.Goals as goal

pub returns-clause-goes : goal.returns-clause-goes
returns-clause-goes g c = goes-out

pub returns-clause-stays : goal.returns-clause-stays
returns-clause-stays g c = stays
