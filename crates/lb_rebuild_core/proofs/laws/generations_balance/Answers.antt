-- By induction over the events.
use Rattle.lb_rebuild_core.proofs.Ledger.{balanced}
use Rattle.lb_rebuild_core.proofs.laws.generations_balance.Goals as goal

pub returns : goal.returns
returns c = balanced
