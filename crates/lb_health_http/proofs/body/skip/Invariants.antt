use Rattle.std.proofs.Common.{◌≡◌, ◌≤◌}
use Rattle.lb_stream.specs.Counted.{inner_of, has_failed}
use Rattle.lb_stream.specs.Stream.{OnBytes}
use Rattle.lb_health_http.specs.Internal.Steps.{Passed}
use Rattle.lb_health_http.proofs.body.skip.Given as goal

abbrev pub invariant-loop-left : goal.invariant-loop-left
invariant-loop-left g l = record {
  read : OnBytes (g.R.Read.remaining (inner_of l.fn.reader)) (g.R.Read.remaining (inner_of l.reader)) (Passed l.left l.fn.length);
  within : l.left ≤ l.fn.length;
  kept : has_failed l.reader ≡ has_failed l.fn.reader;
}

abbrev pub decreases-loop-left : goal.decreases-loop-left
decreases-loop-left g l = l.left
