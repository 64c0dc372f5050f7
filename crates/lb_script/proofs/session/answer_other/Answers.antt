use Rattle.std.proofs.Common.{rules}
use Rattle.lb_script.specs.LineSteps.{line_step_seen}
use Rattle.lb_script.proofs.session.answer_other.Goals as goal

pub returns-clause-line : goal.returns-clause-line
returns-clause-line g c =
    λ h before.
    let st = line_step_seen c.in_ok-step.step in
    let stands = c.take_step-answer.ensures h before in
    record {
      st = st;
      a = c.take_step-answer.result;
      is = search rules;
      right = stands.run.1;
      stands = stands;
      printed = search rules;
    }
