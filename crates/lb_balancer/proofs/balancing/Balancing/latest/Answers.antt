-- What lies under the lock is kept of this balancer.
use Rattle.std.proofs.Common.{◌∙◌}
use Rattle.lb_balancer.proofs.Kepts.{kept-of}
use Rattle.lb_balancer.proofs.balancing.Balancing.latest.Goals as goal

pub returns-clause-kept : goal.returns-clause-kept
returns-clause-kept g c =
    let value = c.take-held.result.value in
    c.in_ok-kept.ensures c.args.self.now
    (kept-of g.R.KeyRule.gives _ c.args.self.now value.shown value.ready (c.self.invariant.1 ∙ c.self.view_is) c.take-held.ensures.fact)
