-- The group that this handle shares got the flag.
use Rattle.std.proofs.Common.{subst}
use Rattle.lb_threads_group.specs.Group.{FlaggedUnder}
use Rattle.lb_balancer_group.proofs.backends.LoadBalancerGroupLendsToThreads.flag.Goals as goal

pub returns : goal.returns
returns g c =
    subst (λ v. FlaggedUnder v.core c.args.backend.now c.args.enabled) c.deref-shared.ensures c.set_enable.ensures
