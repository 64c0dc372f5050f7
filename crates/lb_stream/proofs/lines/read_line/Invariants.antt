use Rattle.std.proofs.Common.{◌≡◌, ◌≤◌, ◌-◌, ◌++◌, vec_len}
use Rattle.std.specs.Io.KnownBytes.{Keeps, prepend_known}
use Rattle.lb_stream.specs.Counted.{inner_of, has_failed}
use Rattle.lb_stream.specs.Stream.{OnBytes}
use Rattle.lb_stream.proofs.LinesLemmas.{IsFront}
use Rattle.lb_stream.proofs.lines.read_line.Given as goal

abbrev pub invariant-loop-line : goal.invariant-loop-line
invariant-loop-line g l = record {
  read : OnBytes (prepend_known l.fn.ahead (g.R.Read.remaining (inner_of l.fn.reader)))
      (prepend_known l.ahead (g.R.Read.remaining (inner_of l.reader)))
      (λ stream rest. stream ≡ l.line.items ++ rest);
  front : IsFront l.line.items;
  room : vec_len l.line ≤ 16777216;
  written : Keeps (g.W.Write.contents (inner_of l.fn.writer)) (g.W.Write.contents (inner_of l.writer));
  reader_kept : has_failed l.reader ≡ has_failed l.fn.reader;
  writer_kept : has_failed l.writer ≡ has_failed l.fn.writer;
}

abbrev pub decreases-loop-line : goal.decreases-loop-line
decreases-loop-line g l = 16777216 - vec_len l.line
