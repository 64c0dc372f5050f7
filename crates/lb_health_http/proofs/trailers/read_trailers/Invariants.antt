use Rattle.std.proofs.Common.{◌≡◌, ◌≤◌}
use Rattle.lb_stream.specs.Counted.{inner_of, has_failed}
use Rattle.lb_stream.specs.Stream.{OnBytes}
use Rattle.lb_health_http.proofs.TrailerLemmas.{PassesTrailers}
use Rattle.lb_health_http.proofs.trailers.read_trailers.Given as goal

abbrev pub invariant-loop-line : goal.invariant-loop-line
invariant-loop-line g l = record {
  read : OnBytes (g.R.Read.remaining (inner_of l.fn.reader)) (g.R.Read.remaining (inner_of l.reader)) (PassesTrailers l.room);
  within : l.room ≤ 65536;
  kept : has_failed l.reader ≡ has_failed l.fn.reader;
}

abbrev pub decreases-loop-line : goal.decreases-loop-line
decreases-loop-line g l = l.room
