-- The test answers what its contract says.
use Rattle.std.specs.Arc.{arc_value}
use Rattle.lb_balancer_group.proofs.Accepts.{selected-ready}
use Rattle.lb_balancer_group.proofs.group.LoadBalancerGroup.select.Goals as goal

pub returns : goal.returns
returns g c =
    selected-ready g.R.KeyRule.gives c.args.max_iterations g.S.BackendSelection.walks c.args.key.now (arc_value c.args.self.now.shared)
    c.args.slot
    c.select_with.result c.select_with.ensures (λ p ready a is. is.met)
