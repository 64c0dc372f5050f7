-- What the lane has is kept of the balancer.
use Rattle.lb_balancer.proofs.Kepts.{kept-of}
use Rattle.lb_balancer.proofs.balancing.Balancing.ready_in_lane.Goals as goal

pub ready_in-requires : goal.ready_in-requires
ready_in-requires g c =
    let kept = c.in_ok-kept.kept.now in
    kept-of g.R.KeyRule.gives c.in_ok-seen.seen.hand.tag c.args.self.now kept.shown kept.ready c.in_ok-seen.ensures
    c.in_ok-kept.ensures
