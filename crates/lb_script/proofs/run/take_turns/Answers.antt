use Rattle.std.proofs.Common.{◌∙◌, ◌++◌, [], Some, None, IfSome, ap, subst, arith}
use Rattle.std.specs.Io.KnownBytes.{Appends, prepend_known}
use Rattle.lb_world.specs.Meanings.{meaning_of}
use Rattle.lb_stream.specs.Counted.{inner_of, has_failed}
use Rattle.lb_stream.specs.Stream.{AppendsFront}
use Rattle.lb_script.specs.declared.error.ScriptError.TheVariants.{OutOfMemory}
use Rattle.lb_script.specs.declared.session.LineTurn.TheVariants.{Failed}
use Rattle.lb_script.specs.Internal.Session.{end_text}
use Rattle.lb_script.specs.Output.{Wrote}
use Rattle.lb_script.proofs.RunLemmas.{begins, goes_on, is_over, stops_at_end, ends_with_line, stops_in_last, ends_early, ends_in_part}
use Rattle.lb_script.proofs.RunLemmas.{stops_waiting, runs_out, runs_out_in_part, on_status}
use Rattle.lb_script.proofs.run.take_turns.Goals as goal

pub loop-number-init : goal.loop-number-init
loop-number-init g c = record {
  fresh_reader = c.requires.fresh_reader;
  fresh_writer = c.requires.fresh_writer;
  so_far = begins (meaning_of g.S.BackendSelection) (g.R.Read.remaining (inner_of c.args.reader.now)) c.args.session.now.ahead
      (g.W.Write.contents (inner_of c.args.writer.now)) c.args.session.now.waiting.items c.args.session.now.world
      c.requires.ahead c.requires.waiting c.requires.stands;
}

pub returns-in-LastAnswered-clause-none : goal.returns-in-LastAnswered-clause-none
returns-in-LastAnswered-clause-none g c =
    let M = meaning_of g.S.BackendSelection in
    let all = g.R.Read.remaining (inner_of c.args.reader.now) in
    let left = prepend_known c.loop-number.session.ahead (g.R.Read.remaining (inner_of c.loop-number.reader)) in
    let unread = g.R.Read.remaining (inner_of c.take_turn.new.reader) in
    let now = prepend_known c.take_turn.new.self.ahead unread in
    let old = g.W.Write.contents (inner_of c.args.writer.now) in
    let new = g.W.Write.contents (inner_of c.loop-number.writer) in
    let mid = g.W.Write.contents (inner_of c.take_turn.new.writer) in
    let before = c.loop-number.session.waiting.items in
    let after = c.take_turn.new.self.waiting.items in
    let w = c.loop-number.session.world in
    let v = c.take_turn.new.self.world in
    let k = c.loop-number.number in
    let failed = has_failed c.take_turn.new.reader in
    let so = c.loop-number.invariant.so_far in
    λ none. stops_in_last M all left now unread old new mid (g.W.Write.contents (inner_of c.put_end.new.writer)) before after w v k
    failed so
    c.take_turn.result c.in-LastAnswered.is c.take_turn.ensures.turn (c.take_turn.ensures.reader_kept (λ e. cc)
    ∙ c.loop-number.invariant.fresh_reader)
    (subst (λ t. AppendsFront mid (g.W.Write.contents (inner_of c.put_end.new.writer)) (t ++ [])) c.deref.ensures.value
    (c.put_end.ensures.none none))

pub returns-in-LastAnswered-clause-some : goal.returns-in-LastAnswered-clause-some
returns-in-LastAnswered-clause-some g c =
    let M = meaning_of g.S.BackendSelection in
    let all = g.R.Read.remaining (inner_of c.args.reader.now) in
    let left = prepend_known c.loop-number.session.ahead (g.R.Read.remaining (inner_of c.loop-number.reader)) in
    let unread = g.R.Read.remaining (inner_of c.take_turn.new.reader) in
    let now = prepend_known c.take_turn.new.self.ahead unread in
    let old = g.W.Write.contents (inner_of c.args.writer.now) in
    let new = g.W.Write.contents (inner_of c.loop-number.writer) in
    let mid = g.W.Write.contents (inner_of c.take_turn.new.writer) in
    let before = c.loop-number.session.waiting.items in
    let after = c.take_turn.new.self.waiting.items in
    let w = c.loop-number.session.world in
    let v = c.take_turn.new.self.world in
    let k = c.loop-number.number in
    let failed = has_failed c.take_turn.new.reader in
    let so = c.loop-number.invariant.so_far in
    on_status c.put_end.result 0 (Appends mid (g.W.Write.contents (inner_of c.put_end.new.writer)) (c.deref.result.now ++ end_text k None))
    (λ s. IfSome all (λ script. Wrote M failed script unread old (g.W.Write.contents (inner_of c.put_end.new.writer)) s))
    c.put_end.ensures.some
    (λ put. ends_with_line M all left now unread old new mid (g.W.Write.contents (inner_of c.put_end.new.writer)) before after w v k
    failed so
    c.take_turn.result c.in-LastAnswered.is c.take_turn.ensures.turn (c.take_turn.ensures.reader_kept (λ e. cc)
    ∙ c.loop-number.invariant.fresh_reader)
    (subst (λ t. Appends mid (g.W.Write.contents (inner_of c.put_end.new.writer)) (t ++ [])) c.deref.ensures.value put))

pub returns-in-Ended-clause-none : goal.returns-in-Ended-clause-none
returns-in-Ended-clause-none g c =
    let M = meaning_of g.S.BackendSelection in
    let all = g.R.Read.remaining (inner_of c.args.reader.now) in
    let left = prepend_known c.loop-number.session.ahead (g.R.Read.remaining (inner_of c.loop-number.reader)) in
    let unread = g.R.Read.remaining (inner_of c.take_turn.new.reader) in
    let now = prepend_known c.take_turn.new.self.ahead unread in
    let old = g.W.Write.contents (inner_of c.args.writer.now) in
    let new = g.W.Write.contents (inner_of c.loop-number.writer) in
    let mid = g.W.Write.contents (inner_of c.take_turn.new.writer) in
    let before = c.loop-number.session.waiting.items in
    let after = c.take_turn.new.self.waiting.items in
    let w = c.loop-number.session.world in
    let v = c.take_turn.new.self.world in
    let k = c.loop-number.number in
    let failed = has_failed c.take_turn.new.reader in
    let so = c.loop-number.invariant.so_far in
    λ none. stops_at_end M all left now unread old new mid (g.W.Write.contents (inner_of c.put_end-in-Ended.new.writer)) before after w v
    k failed so
    c.take_turn.result c.in-Ended.is c.take_turn.ensures.turn (c.take_turn.ensures.reader_kept (λ e. cc)
    ∙ c.loop-number.invariant.fresh_reader)
    (subst (λ t. AppendsFront mid (g.W.Write.contents (inner_of c.put_end-in-Ended.new.writer)) (t ++ [])) c.deref-in-Ended.ensures.value
    (c.put_end-in-Ended.ensures.none none))

pub returns-in-Ended-clause-some : goal.returns-in-Ended-clause-some
returns-in-Ended-clause-some g c =
    let M = meaning_of g.S.BackendSelection in
    let all = g.R.Read.remaining (inner_of c.args.reader.now) in
    let left = prepend_known c.loop-number.session.ahead (g.R.Read.remaining (inner_of c.loop-number.reader)) in
    let unread = g.R.Read.remaining (inner_of c.take_turn.new.reader) in
    let now = prepend_known c.take_turn.new.self.ahead unread in
    let old = g.W.Write.contents (inner_of c.args.writer.now) in
    let new = g.W.Write.contents (inner_of c.loop-number.writer) in
    let mid = g.W.Write.contents (inner_of c.take_turn.new.writer) in
    let before = c.loop-number.session.waiting.items in
    let after = c.take_turn.new.self.waiting.items in
    let w = c.loop-number.session.world in
    let v = c.take_turn.new.self.world in
    let k = c.loop-number.number in
    let failed = has_failed c.take_turn.new.reader in
    let so = c.loop-number.invariant.so_far in
    on_status c.put_end-in-Ended.result 0 (Appends mid (g.W.Write.contents (inner_of c.put_end-in-Ended.new.writer))
    (c.deref-in-Ended.result.now ++ end_text k None))
    (λ s. IfSome all (λ script. Wrote M failed script unread old (g.W.Write.contents (inner_of c.put_end-in-Ended.new.writer)) s))
    c.put_end-in-Ended.ensures.some
    (λ put. is_over M all left now unread old new mid (g.W.Write.contents (inner_of c.put_end-in-Ended.new.writer)) before after w v k
    failed so
    c.take_turn.result c.in-Ended.is c.take_turn.ensures.turn (c.take_turn.ensures.reader_kept (λ e. cc)
    ∙ c.loop-number.invariant.fresh_reader)
    (subst (λ t. Appends mid (g.W.Write.contents (inner_of c.put_end-in-Ended.new.writer)) (t ++ [])) c.deref-in-Ended.ensures.value put))

pub returns-in-Failed-clause-none : goal.returns-in-Failed-clause-none
returns-in-Failed-clause-none g c =
    let M = meaning_of g.S.BackendSelection in
    let all = g.R.Read.remaining (inner_of c.args.reader.now) in
    let left = prepend_known c.loop-number.session.ahead (g.R.Read.remaining (inner_of c.loop-number.reader)) in
    let unread = g.R.Read.remaining (inner_of c.take_turn.new.reader) in
    let now = prepend_known c.take_turn.new.self.ahead unread in
    let old = g.W.Write.contents (inner_of c.args.writer.now) in
    let new = g.W.Write.contents (inner_of c.loop-number.writer) in
    let mid = g.W.Write.contents (inner_of c.take_turn.new.writer) in
    let before = c.loop-number.session.waiting.items in
    let after = c.take_turn.new.self.waiting.items in
    let w = c.loop-number.session.world in
    let v = c.take_turn.new.self.world in
    let k = c.loop-number.number in
    let failed = has_failed c.take_turn.new.reader in
    let so = c.loop-number.invariant.so_far in
    λ none. ends_in_part M all left unread old new mid (g.W.Write.contents (inner_of c.put_end-in-Failed.new.writer))
    c.take_turn.new.self.ahead before after
    w v k c.in-Failed.error failed so c.take_turn.result c.in-Failed.is c.take_turn.ensures.turn
    (λ e. c.take_turn.ensures.reader_failed (c.in-Failed.is ∙ ap Failed e)) (λ other. c.take_turn.ensures.reader_kept (λ e. other (cc))
    ∙ c.loop-number.invariant.fresh_reader) (λ e. c.take_turn.ensures.none (c.in-Failed.is ∙ ap Failed e))
    (subst (λ t. AppendsFront mid (g.W.Write.contents (inner_of c.put_end-in-Failed.new.writer)) (t ++ end_text k (Some
    c.in-Failed.error))) c.deref-in-Failed.ensures.value (c.put_end-in-Failed.ensures.none none))

pub returns-in-Failed-clause-some : goal.returns-in-Failed-clause-some
returns-in-Failed-clause-some g c =
    let M = meaning_of g.S.BackendSelection in
    let all = g.R.Read.remaining (inner_of c.args.reader.now) in
    let left = prepend_known c.loop-number.session.ahead (g.R.Read.remaining (inner_of c.loop-number.reader)) in
    let unread = g.R.Read.remaining (inner_of c.take_turn.new.reader) in
    let now = prepend_known c.take_turn.new.self.ahead unread in
    let old = g.W.Write.contents (inner_of c.args.writer.now) in
    let new = g.W.Write.contents (inner_of c.loop-number.writer) in
    let mid = g.W.Write.contents (inner_of c.take_turn.new.writer) in
    let before = c.loop-number.session.waiting.items in
    let after = c.take_turn.new.self.waiting.items in
    let w = c.loop-number.session.world in
    let v = c.take_turn.new.self.world in
    let k = c.loop-number.number in
    let failed = has_failed c.take_turn.new.reader in
    let so = c.loop-number.invariant.so_far in
    on_status c.put_end-in-Failed.result 1 (Appends mid (g.W.Write.contents (inner_of c.put_end-in-Failed.new.writer))
    (c.deref-in-Failed.result.now ++ end_text k (Some c.in-Failed.error)))
    (λ s. IfSome all (λ script. Wrote M failed script unread old (g.W.Write.contents (inner_of c.put_end-in-Failed.new.writer)) s))
    c.put_end-in-Failed.ensures.some
    (λ put. ends_early M all left unread old new mid (g.W.Write.contents (inner_of c.put_end-in-Failed.new.writer))
    c.take_turn.new.self.ahead before after
    w v k c.in-Failed.error failed so c.take_turn.result c.in-Failed.is c.take_turn.ensures.turn
    (λ e. c.take_turn.ensures.reader_failed (c.in-Failed.is ∙ ap Failed e)) (λ other. c.take_turn.ensures.reader_kept (λ e. other (cc))
    ∙ c.loop-number.invariant.fresh_reader) (λ e. c.take_turn.ensures.none (c.in-Failed.is ∙ ap Failed e))
    (subst (λ t. Appends mid (g.W.Write.contents (inner_of c.put_end-in-Failed.new.writer)) (t ++ end_text k (Some c.in-Failed.error)))
    c.deref-in-Failed.ensures.value put))

pub returns-in-WriteFailed-clause-none : goal.returns-in-WriteFailed-clause-none
returns-in-WriteFailed-clause-none g c =
    let M = meaning_of g.S.BackendSelection in
    let all = g.R.Read.remaining (inner_of c.args.reader.now) in
    let left = prepend_known c.loop-number.session.ahead (g.R.Read.remaining (inner_of c.loop-number.reader)) in
    let unread = g.R.Read.remaining (inner_of c.take_turn.new.reader) in
    let now = prepend_known c.take_turn.new.self.ahead unread in
    let old = g.W.Write.contents (inner_of c.args.writer.now) in
    let new = g.W.Write.contents (inner_of c.loop-number.writer) in
    let mid = g.W.Write.contents (inner_of c.take_turn.new.writer) in
    let before = c.loop-number.session.waiting.items in
    let after = c.take_turn.new.self.waiting.items in
    let w = c.loop-number.session.world in
    let v = c.take_turn.new.self.world in
    let k = c.loop-number.number in
    let failed = has_failed c.take_turn.new.reader in
    let so = c.loop-number.invariant.so_far in
    λ _. stops_waiting M all left unread old new mid before w k failed so (c.take_turn.ensures.reader_kept (λ e. cc)
    ∙ c.loop-number.invariant.fresh_reader) (c.take_turn.ensures.part c.in-WriteFailed.is)

pub loop-number-preserved : goal.loop-number-preserved
loop-number-preserved g c =
    let M = meaning_of g.S.BackendSelection in
    let all = g.R.Read.remaining (inner_of c.args.reader.now) in
    let left = prepend_known c.loop-number.session.ahead (g.R.Read.remaining (inner_of c.loop-number.reader)) in
    let unread = g.R.Read.remaining (inner_of c.take_turn.new.reader) in
    let now = prepend_known c.take_turn.new.self.ahead unread in
    let old = g.W.Write.contents (inner_of c.args.writer.now) in
    let new = g.W.Write.contents (inner_of c.loop-number.writer) in
    let mid = g.W.Write.contents (inner_of c.take_turn.new.writer) in
    let before = c.loop-number.session.waiting.items in
    let after = c.take_turn.new.self.waiting.items in
    let w = c.loop-number.session.world in
    let v = c.take_turn.new.self.world in
    let k = c.loop-number.number in
    let failed = has_failed c.take_turn.new.reader in
    let so = c.loop-number.invariant.so_far in
    record {
      fresh_reader = c.take_turn.ensures.reader_kept (λ e. cc) ∙ c.loop-number.invariant.fresh_reader;
      fresh_writer = c.take_turn.ensures.writer_kept (λ e. cc) ∙ c.loop-number.invariant.fresh_writer;
      so_far = goes_on M all left now old new mid before after w v k so c.take_turn.result c.in-Answered.is c.take_turn.ensures.turn;
    }

pub returns-clause-none : goal.returns-clause-none
returns-clause-none g c =
    let M = meaning_of g.S.BackendSelection in
    let all = g.R.Read.remaining (inner_of c.args.reader.now) in
    let unread = g.R.Read.remaining (inner_of c.loop-number.reader) in
    let left = prepend_known c.loop-number.session.ahead unread in
    let old = g.W.Write.contents (inner_of c.args.writer.now) in
    let new = g.W.Write.contents (inner_of c.loop-number.writer) in
    let newer = g.W.Write.contents (inner_of c.put_end-2.new.writer) in
    let before = c.loop-number.session.waiting.items in
    λ none. runs_out_in_part M all left unread old new newer before c.loop-number.session.world c.loop-number.number
    (has_failed c.loop-number.reader) c.loop-number.invariant.so_far (omega arith) c.loop-number.invariant.fresh_reader
    (subst (λ t. AppendsFront new newer (t ++ end_text 18446744073709551615 (Some OutOfMemory))) c.deref-2.ensures.value
    (c.put_end-2.ensures.none none))

pub returns-clause-some : goal.returns-clause-some
returns-clause-some g c =
    let M = meaning_of g.S.BackendSelection in
    let all = g.R.Read.remaining (inner_of c.args.reader.now) in
    let unread = g.R.Read.remaining (inner_of c.loop-number.reader) in
    let left = prepend_known c.loop-number.session.ahead unread in
    let old = g.W.Write.contents (inner_of c.args.writer.now) in
    let new = g.W.Write.contents (inner_of c.loop-number.writer) in
    let newer = g.W.Write.contents (inner_of c.put_end-2.new.writer) in
    let before = c.loop-number.session.waiting.items in
    on_status c.put_end-2.result 1 (Appends new (g.W.Write.contents (inner_of c.put_end-2.new.writer)) (c.deref-2.result.now ++ end_text
    18446744073709551615 (Some OutOfMemory)))
    (λ s. IfSome all (λ script. Wrote M (has_failed c.loop-number.reader) script unread old newer s)) c.put_end-2.ensures.some
    (λ put. runs_out M all left unread old new newer before c.loop-number.session.world c.loop-number.number
    (has_failed c.loop-number.reader) c.loop-number.invariant.so_far (omega arith) c.loop-number.invariant.fresh_reader
    (subst (λ t. Appends new newer (t ++ end_text 18446744073709551615 (Some OutOfMemory))) c.deref-2.ensures.value put))
