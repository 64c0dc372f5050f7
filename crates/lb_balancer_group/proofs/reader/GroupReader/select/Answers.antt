-- The test answers what its contract says.
use Rattle.lb_balancer_group.proofs.Accepts.{selected-ready}
use Rattle.lb_balancer_group.proofs.reader.GroupReader.select.Goals as goal

pub returns : goal.returns
returns g c =
    selected-ready g.R.KeyRule.gives c.args.max_iterations g.S.BackendSelection.walks c.args.key.now c.args.self.now.shared.now c.args.slot
    c.select_with.result c.select_with.ensures (λ p ready a is. is.met)
