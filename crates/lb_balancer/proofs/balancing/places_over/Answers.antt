-- What is shown at first is kept without words.
use Rattle.std.proofs.Common.{sym}
use Rattle.lb_balancer.proofs.Kepts.{kept-of}
use Rattle.lb_balancer.proofs.balancing.places_over.Goals as goal

pub new-requires-5 : goal.new-requires-5
new-requires-5 g c =
    let kept = c.new-kept.result in
    kept-of g.R.KeyRule.gives c.args.origin.now c.of-key.result.value kept.shown kept.ready (sym c.of-key.ensures)
    (c.new-kept.ensures c.args.origin.now c.in_ok-told.ensures.shown tt)
