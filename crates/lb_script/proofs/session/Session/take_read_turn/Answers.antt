use Rattle.std.proofs.Common.{◌≡◌, ◌∙◌, ◌++◌, ap, List, ℕ, Err}
use Rattle.std.specs.Io.KnownBytes.{prepend_known}
use Rattle.lb_world.specs.Meanings.{meaning_of}
use Rattle.lb_stream.specs.Counted.{inner_of}
use Rattle.lb_script.proofs.SessionLemmas.{answered_line, answered_rest, failed_line, line_told, answers_told}
use Rattle.lb_script.proofs.session.Session.take_read_turn.Goals as goal

pub returns-in-Ok-clause-turn : goal.returns-in-Ok-clause-turn
returns-in-Ok-clause-turn g c = λ h stands.
    let M = meaning_of g.S.BackendSelection in
    let rest = g.R.Read.remaining (inner_of c.read_line.new.reader) in
    let after = c.answer_read.new.self.waiting.items in
    let none : (text : List ℕ) → after ≡ c.args.self.now.waiting.items ++ text → after ≡ text = λ text is. is
    ∙ ap (λ l. l ++ text) c.requires.none in
    rw c.in-Ok.ensures.ahead
    (answered_line M h (prepend_known c.args.self.now.ahead (g.R.Read.remaining (inner_of c.args.reader.now)))
    (prepend_known c.read_line.new.ahead rest) c.read_line.new.line.items c.answer_read.new.self.world (λ text. after ≡ text)
    c.in-Line.ensures.found
    (line_told M h c.read_line.new.line.items c.answer_read.new.self.world (λ text. after ≡ c.args.self.now.waiting.items ++ text)
    (λ text. after ≡ text) none
    (c.in-Ok.ensures.line h stands)))

pub returns-in-Err-clause-turn : goal.returns-in-Err-clause-turn
returns-in-Err-clause-turn g c = λ h stands.
    let M = meaning_of g.S.BackendSelection in
    let rest = g.R.Read.remaining (inner_of c.read_line.new.reader) in
    let after = c.answer_read.new.self.waiting.items in
    let none : (text : List ℕ) → after ≡ c.args.self.now.waiting.items ++ text → after ≡ text = λ text is. is
    ∙ ap (λ l. l ++ text) c.requires.none in
    rw c.in-Err.ensures.ahead
    (failed_line M h (prepend_known c.args.self.now.ahead (g.R.Read.remaining (inner_of c.args.reader.now)))
    (prepend_known c.read_line.new.ahead rest) c.read_line.new.line.items c.answer_read.new.self.world (λ text. after ≡ text) c.in-Err.error
    c.in-Line.ensures.found
    (answers_told M h c.read_line.new.line.items c.answer_read.new.self.world (λ text. after ≡ c.args.self.now.waiting.items ++ text)
    (λ text. after ≡ text) none
    (Err c.in-Err.error) (c.in-Err.ensures.line h stands)))

pub returns-in-Ok-answer_read-clause-turn : goal.returns-in-Ok-answer_read-clause-turn
returns-in-Ok-answer_read-clause-turn g c = λ h stands.
    let M = meaning_of g.S.BackendSelection in
    let rest = g.R.Read.remaining (inner_of c.read_line.new.reader) in
    let after = c.answer_read-in-LastLine.new.self.waiting.items in
    let none : (text : List ℕ) → after ≡ c.args.self.now.waiting.items ++ text → after ≡ text = λ text is. is
    ∙ ap (λ l. l ++ text) c.requires.none in
    rw c.in-Ok-answer_read.ensures.ahead
    (answered_rest M h (prepend_known c.args.self.now.ahead (g.R.Read.remaining (inner_of c.args.reader.now)))
    (prepend_known c.read_line.new.ahead rest) c.read_line.new.line.items c.answer_read-in-LastLine.new.self.world (λ text. after ≡ text)
    c.in-LastLine.ensures.found
    (line_told M h c.read_line.new.line.items c.answer_read-in-LastLine.new.self.world
    (λ text. after ≡ c.args.self.now.waiting.items ++ text) (λ text. after ≡ text) none
    (c.in-Ok-answer_read.ensures.line h stands)))
