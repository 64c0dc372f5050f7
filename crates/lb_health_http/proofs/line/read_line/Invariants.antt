use Rattle.std.proofs.Common.{◌≡◌, ◌++◌, length}
use Rattle.lb_stream.specs.Counted.{inner_of, has_failed}
use Rattle.lb_stream.specs.Stream.{OnBytes}
use Rattle.lb_health_http.specs.Chunked.{NoFeed}
use Rattle.lb_health_http.proofs.line.read_line.Given as goal

abbrev pub invariant-loop : goal.invariant-loop
invariant-loop g l = record {
  read : OnBytes (g.R.Read.remaining (inner_of l.fn.reader)) (g.R.Read.remaining (inner_of l.reader))
      (λ stream rest. stream ≡ l.line.items ++ rest);
  clear : NoFeed l.line.items;
  counted : length l.line.items ≡ l.counter;
  kept : has_failed l.reader ≡ has_failed l.fn.reader;
}
