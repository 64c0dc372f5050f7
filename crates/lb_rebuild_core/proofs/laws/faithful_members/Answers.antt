-- By cases on the events.
use Rattle.lb_rebuild_core.proofs.Telling.{has-members}
use Rattle.lb_rebuild_core.proofs.laws.faithful_members.Goals as goal

pub returns : goal.returns
returns c = has-members
