-- The answer is about the group that the handle shares.
use Rattle.std.proofs.Common.{subst}
use Rattle.lb_threads_group.specs.Group.{NewestReadyUnder}
use Rattle.lb_balancer_group.proofs.backends.LoadBalancerGroupLendsToThreads.newest_ready.Goals as goal

pub returns : goal.returns
returns g c = subst (λ v. NewestReadyUnder g.R.KeyRule.gives v c.args.backend.now c.ready.result) c.deref-shared.ensures c.ready.ensures
