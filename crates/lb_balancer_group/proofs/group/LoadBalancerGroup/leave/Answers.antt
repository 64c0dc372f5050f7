-- The reader leaves the group that the handle shares.
use Rattle.std.proofs.Common.{subst}
use Rattle.lb_threads_group.specs.Group.{LeftUnder}
use Rattle.lb_balancer_group.proofs.group.LoadBalancerGroup.leave.Goals as goal

pub returns : goal.returns
returns g c = subst (λ v. LeftUnder v.core c.args.reader) c.deref-shared.ensures c.leave.ensures
