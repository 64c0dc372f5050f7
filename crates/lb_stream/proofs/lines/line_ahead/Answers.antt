use Rattle.lb_stream.proofs.LinesLemmas.{held_line, no_line_held}
use Rattle.lb_stream.proofs.lines.line_ahead.Goals as goal

pub returns-in-Some-clause-line : goal.returns-in-Some-clause-line
returns-in-Some-clause-line c =
    held_line c.args.ahead.now c.bytes-bytes.result.now c.in-Some.place c.bytes-bytes.ensures.value c.bytes-bytes.ensures.few
    c.in-Some.ensures

pub returns-in-None-clause-none : goal.returns-in-None-clause-none
returns-in-None-clause-none c = λ _. no_line_held c.args.ahead.now c.bytes-bytes.result.now c.bytes-bytes.ensures.value c.in-None.ensures
