use Rattle.lb_rebuild_core.proofs.Histories.{is-shown}
use Rattle.lb_rebuild_core.proofs.snapshot_laws.views_follow.Goals as goal

pub returns : goal.returns
returns c = is-shown
