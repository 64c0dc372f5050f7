use Rattle.lb_script.proofs.ParseLemmas.{step_of-read, step_of-no_text}
use Rattle.lb_script.proofs.parse.parse.Goals as goal

pub returns-in-Ok : goal.returns-in-Ok
returns-in-Ok c =
    step_of-read c.args.line.now c.in-Ok.text.now c.of.result c.step.result c.in-Ok.ensures.cases.1 c.in-Ok.ensures.cases.0 c.of.ensures
    c.step.ensures

pub returns-in-Err : goal.returns-in-Err
returns-in-Err c = step_of-no_text c.args.line.now c.in-Err.ensures.cases.0
