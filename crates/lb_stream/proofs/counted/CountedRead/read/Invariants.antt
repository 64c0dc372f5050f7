use Rattle.std.proofs.Common.{◌≡◌}
use Rattle.std.specs.Io.KnownBytes.{Keeps}
use Rattle.lb_stream.specs.Counted.{inner_of, has_failed, is_flushed}
use Rattle.lb_stream.proofs.counted.CountedRead.read.Given as goal

abbrev pub invariant-loop : goal.invariant-loop
invariant-loop g l = record {
  bytes : Keeps (g.R.Read.remaining (inner_of l.fn.self)) (g.R.Read.remaining (inner_of l.self));
  kept : has_failed l.self ≡ has_failed l.fn.self;
  flushed : is_flushed l.self ≡ is_flushed l.fn.self;
}
