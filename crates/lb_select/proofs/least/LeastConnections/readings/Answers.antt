use Rattle.std.proofs.Common.{◌≡◌, ap, ◌∙◌, length, arith}
use Rattle.lb_select.proofs.LeastWalking.{arranged_inside}
use Rattle.lb_select.proofs.least.LeastConnections.readings.Goals as goal

pub returns-clause-order : goal.returns-clause-order
returns-clause-order g c =
    let long : length c.as_slice-count.result.now ≡ length c.args.self.now
    = ap length c.as_slice-count.ensures.value ∙ ap length c.self.view_is in
    let all : c.loop-index.index ≡ length c.args.self.now = omega (arith, long, c.loop-index-test.false, c.loop-index.auto.index-end) in
    record {
      ordered = rw (← c.self.view_is) c.self.invariant;
      readings = c.loop-index.readings.items;
      given = rw all at c.loop-index.invariant;
      same = c.arrange.ensures.same;
      sorted = c.arrange.ensures.sorted;
    }

pub returns-clause-inside : goal.returns-clause-inside
returns-clause-inside g c = arranged_inside _ _ _ (returns-clause-order g c)
