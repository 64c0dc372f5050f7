-- By induction over the events, slot by slot.
use Rattle.lb_rebuild_core.proofs.Sums.{slots-account}
use Rattle.lb_rebuild_core.proofs.laws.slots_account.Goals as goal

pub returns : goal.returns
returns c = slots-account
