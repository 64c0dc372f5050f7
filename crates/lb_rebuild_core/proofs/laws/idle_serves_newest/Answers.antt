-- By cases on the events.
use Rattle.lb_rebuild_core.proofs.Telling.{serves-newest}
use Rattle.lb_rebuild_core.proofs.laws.idle_serves_newest.Goals as goal

pub returns : goal.returns
returns c = serves-newest
