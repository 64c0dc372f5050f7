-- The entry is one of the group that the handle shares.
use Rattle.std.proofs.Common.{subst}
use Rattle.lb_threads_group.specs.Passes.{IsEntryAt}
use Rattle.lb_balancer_group.proofs.group.LoadBalancerGroup.enter_as.Goals as goal

pub returns : goal.returns
returns g c =
    subst (λ v. IsEntryAt v c.args.slot c.args.pass.now c.enter_as.result c.enter_as.new.pass) c.deref-shared.ensures c.enter_as.ensures
