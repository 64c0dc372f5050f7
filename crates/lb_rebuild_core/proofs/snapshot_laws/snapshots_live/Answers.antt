use Rattle.lb_rebuild_core.proofs.Ends.{ends}
use Rattle.lb_rebuild_core.proofs.Holds.{used-live, newest-live, read-live}
use Rattle.lb_rebuild_core.proofs.snapshot_laws.snapshots_live.Goals as goal

pub returns-clause-used : goal.returns-clause-used
returns-clause-used c = used-live

pub returns-clause-newest : goal.returns-clause-newest
returns-clause-newest c k e all = newest-live k e

pub returns-clause-read : goal.returns-clause-read
returns-clause-read c = read-live

pub returns-clause-ends : goal.returns-clause-ends
returns-clause-ends c = ends
