use Rattle.std.proofs.Common.{rules}
use Rattle.lb_rebuild_core.proofs.group.GroupCore.new.Goals as goal

pub invariant_of-result : goal.invariant_of-result
invariant_of-result g c = search (rules, c.in-Ok.ensures.stands, c.hold_first.ensures.held)
