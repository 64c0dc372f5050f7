use Rattle.std.proofs.Common.{◌≡◌, ◌++◌, List, ℕ, Err, sym}
use Rattle.std.specs.Io.KnownBytes.{prepend_known}
use Rattle.lb_world.specs.Meanings.{meaning_of}
use Rattle.lb_stream.specs.Counted.{inner_of}
use Rattle.lb_script.specs.Internal.Session.{Joins}
use Rattle.lb_script.proofs.SessionLemmas.{answered_line, failed_line, held_found, line_told, answers_told, turn_told, joins_unwritten}
use Rattle.lb_script.proofs.SessionLemmas.{joins_written}
use Rattle.lb_script.proofs.session.Session.take_turn.Goals as goal

pub returns-in-Ok-clause-turn : goal.returns-in-Ok-clause-turn
returns-in-Ok-clause-turn g c = λ h stands.
    let M = meaning_of g.S.BackendSelection in
    let rest = g.R.Read.remaining (inner_of c.args.reader.now) in
    let ahead = c.args.self.now.ahead in
    let out = g.W.Write.contents (inner_of c.args.writer.now) in
    let before = c.args.self.now.waiting.items in
    let after = c.answer-answered.new.text.items in
    answered_line M h (prepend_known ahead rest) (prepend_known c.consume.new.self rest)
    c.in-Some.line.now c.answer-answered.new.world (Joins out out before after)
    (held_found ahead c.consume.new.self c.in-Some.line.now rest c.in-Some.ensures.line.0 c.in-Some.ensures.line.1 c.consume.ensures)
    (line_told M h c.in-Some.line.now c.answer-answered.new.world (λ text. after ≡ before ++ text) (Joins out out before after)
    (joins_unwritten out before after) (c.in-Ok.ensures.line h stands))

pub returns-in-Err-clause-turn : goal.returns-in-Err-clause-turn
returns-in-Err-clause-turn g c = λ h stands.
    let M = meaning_of g.S.BackendSelection in
    let rest = g.R.Read.remaining (inner_of c.args.reader.now) in
    let ahead = c.args.self.now.ahead in
    let out = g.W.Write.contents (inner_of c.args.writer.now) in
    let before = c.args.self.now.waiting.items in
    let after = c.answer-answered.new.text.items in
    failed_line M h (prepend_known ahead rest) (prepend_known c.consume.new.self rest)
    c.in-Some.line.now c.answer-answered.new.world (Joins out out before after) c.in-Err.error
    (held_found ahead c.consume.new.self c.in-Some.line.now rest c.in-Some.ensures.line.0 c.in-Some.ensures.line.1 c.consume.ensures)
    (answers_told M h c.in-Some.line.now c.answer-answered.new.world (λ text. after ≡ before ++ text) (Joins out out before after)
    (joins_unwritten out before after) (Err c.in-Err.error) (c.in-Err.ensures.line h stands))

pub returns-in-Ok-write_waiting-clause-turn : goal.returns-in-Ok-write_waiting-clause-turn
returns-in-Ok-write_waiting-clause-turn g c = λ h stands.
    let M = meaning_of g.S.BackendSelection in
    let old = g.W.Write.contents (inner_of c.args.writer.now) in
    let mid = g.W.Write.contents (inner_of c.write_waiting.new.writer) in
    let new = g.W.Write.contents (inner_of c.take_read_turn.new.writer) in
    let before = c.args.self.now.waiting.items in
    let after = c.take_read_turn.new.self.waiting.items in
    turn_told M h c.take_read_turn.new.self.world (λ text. after ≡ text) (Joins old new before after)
    (λ text is. joins_written old mid new before after text c.in-Ok-write_waiting.ensures.ok c.take_read_turn.ensures.written is)
    c.take_read_turn.result (prepend_known c.args.self.now.ahead (g.R.Read.remaining (inner_of c.args.reader.now)))
    (prepend_known c.take_read_turn.new.self.ahead (g.R.Read.remaining (inner_of c.take_read_turn.new.reader)))
    (rw (sym c.in-Ok-write_waiting.ensures.ahead) (c.take_read_turn.ensures.turn h (rw c.in-Ok-write_waiting.ensures.world stands)))
