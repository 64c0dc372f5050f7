use Rattle.lb_select_base.proofs.Clones.{entries_alike}
use Rattle.lb_select_base.proofs.backend.clone_ext.Goals as goal

pub returns : goal.returns
returns c = entries_alike _ _ c.in_ok-copy.ensures.cases
