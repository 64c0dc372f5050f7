use Rattle.std.proofs.Common.{◌≡◌, ◌≤◌, ◌-◌}
use Rattle.lb_stream.specs.Counted.{inner_of, has_failed}
use Rattle.lb_stream.specs.Stream.{OnBytes}
use Rattle.lb_health_http.specs.Internal.Steps.{PassesChunks}
use Rattle.lb_health_http.proofs.chunk.read_chunked.Given as goal

abbrev pub invariant-loop-reader : goal.invariant-loop-reader
invariant-loop-reader g l = record {
  read : OnBytes (g.R.Read.remaining (inner_of l.fn.reader)) (g.R.Read.remaining (inner_of l.reader))
      (PassesChunks (l.fn.limit - l.room));
  within : l.room ≤ l.fn.limit;
  kept : has_failed l.reader ≡ has_failed l.fn.reader;
}

abbrev pub decreases-loop-reader : goal.decreases-loop-reader
decreases-loop-reader g l = l.room
