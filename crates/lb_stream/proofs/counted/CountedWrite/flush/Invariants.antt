use Rattle.std.proofs.Common.{◌≡◌}
use Rattle.std.specs.Io.KnownBytes.{Keeps}
use Rattle.lb_stream.specs.Counted.{inner_of, has_failed, is_flushed}
use Rattle.lb_stream.proofs.counted.CountedWrite.flush.Given as goal

abbrev pub invariant-loop : goal.invariant-loop
invariant-loop g l = record {
  bytes : Keeps (g.W.Write.contents (inner_of l.fn.self)) (g.W.Write.contents (inner_of l.self));
  kept : has_failed l.self ≡ has_failed l.fn.self;
  pending : is_flushed l.self ≡ is_flushed l.fn.self;
}
