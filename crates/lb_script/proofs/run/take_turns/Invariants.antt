use Rattle.std.proofs.Common.{◌≡◌, false, IfSome}
use Rattle.std.specs.Io.KnownBytes.{prepend_known}
use Rattle.lb_world.specs.Meanings.{meaning_of}
use Rattle.lb_stream.specs.Counted.{inner_of, has_failed}
use Rattle.lb_script.proofs.RunLemmas.{SoFar}
use Rattle.lb_script.proofs.run.take_turns.Given as goal

abbrev pub invariant-loop-number : goal.invariant-loop-number
invariant-loop-number g l = record {
  fresh_reader : has_failed l.reader ≡ false;
  fresh_writer : has_failed l.writer ≡ false;
  so_far : IfSome (g.R.Read.remaining (inner_of l.fn.reader))
      (λ script. SoFar (meaning_of g.S.BackendSelection) script
      (prepend_known l.session.ahead (g.R.Read.remaining (inner_of l.reader)))
      (g.W.Write.contents (inner_of l.fn.writer)) (g.W.Write.contents (inner_of l.writer))
      l.session.waiting.items l.session.world l.number);
}
