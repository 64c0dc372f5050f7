use Rattle.std.proofs.Common.{Some}
use Rattle.lb_stream.specs.Counted.{inner_of}
use Rattle.lb_stream.proofs.StreamLemmas.{front_more, front_after}
use Rattle.lb_script.specs.Internal.Session.{end_text}
use Rattle.lb_script.proofs.run.put_end.Goals as goal

pub returns-in-Err-clause-none : goal.returns-in-Err-clause-none
returns-in-Err-clause-none g c =
    λ _. front_more (g.W.Write.contents (inner_of c.args.writer.now)) (g.W.Write.contents (inner_of c.put.new.self)) c.args.waiting.now
    (end_text c.args.line c.args.error) c.in-Err.ensures.part

pub returns-in-Err-put_error-clause-none : goal.returns-in-Err-put_error-clause-none
returns-in-Err-put_error-clause-none g c =
    λ _. rw c.in-Some.is (front_after (g.W.Write.contents (inner_of c.args.writer.now)) (g.W.Write.contents (inner_of c.put.new.self))
    (g.W.Write.contents (inner_of c.put_error.new.writer)) c.args.waiting.now (end_text c.args.line (Some c.in-Some.error))
    c.in-Ok.ensures.ok c.in-Err-put_error.ensures.part)
