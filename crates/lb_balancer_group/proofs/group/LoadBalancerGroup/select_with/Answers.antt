-- The selection is one of the group that the handle shares.
use Rattle.std.proofs.Common.{subst}
use Rattle.lb_threads_group.specs.Kept.{SelectedFrom}
use Rattle.lb_balancer_core.specs.Looks.{Answers}
use Rattle.lb_balancer_group.proofs.group.LoadBalancerGroup.select_with.Goals as goal

pub returns : goal.returns
returns g c =
    subst (λ v. SelectedFrom g.R.KeyRule.gives (λ b ready a. Answers g.F.Fn c.args.accept.now b ready a) c.args.max_iterations
    g.S.BackendSelection.walks c.args.key.now v c.args.slot c.select_with.result) c.deref-shared.ensures c.select_with.ensures
