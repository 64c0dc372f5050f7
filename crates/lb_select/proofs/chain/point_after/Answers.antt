use Rattle.std.proofs.Common.{rules}
use Rattle.lb_select.specs.Chains.{point_after}
use Rattle.lb_select.proofs.chain.point_after.Goals as goal

pub returns : goal.returns
unfolding point_after
returns c = search rules
