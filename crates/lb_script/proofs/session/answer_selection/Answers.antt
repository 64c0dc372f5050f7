use Rattle.std.proofs.Common.{rules}
use Rattle.lb_script.specs.LineSteps.{selection_seen}
use Rattle.lb_script.proofs.session.answer_selection.Goals as goal

pub returns-clause-line : goal.returns-clause-line
returns-clause-line g c =
    λ h line is before.
    let stands = c.select-answer.ensures h before in
    record {
      st = selection_seen c.args.selection;
      a = c.select-answer.result;
      is = is;
      right = stands.run.1;
      stands = stands;
      printed = search rules;
    }
