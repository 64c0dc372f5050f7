use Rattle.std.proofs.Common.{codes}
use Rattle.lb_script.proofs.ParseLemmas.{other_word}
use Rattle.lb_script.proofs.parse.other_step.Goals as goal

pub returns-in_default : goal.returns-in_default
returns-in_default c =
    rw (
      other_word c.args.first.now (codes "update") c.in_default.not-update,
      other_word c.args.first.now (codes "group")
          c.in_default.not-group,
    )
    c.backend_step.ensures
