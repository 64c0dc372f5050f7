-- By induction over the events.
use Rattle.lb_rebuild_core.proofs.Ledger.{accounted}
use Rattle.lb_rebuild_core.proofs.laws.extras_are_accounted.Goals as goal

pub returns : goal.returns
returns c = accounted
