use Rattle.std.proofs.Common.{codes}
use Rattle.lb_script.proofs.ParseLemmas.{other_word}
use Rattle.lb_script.proofs.plain.plain_step.Goals as goal

pub returns-in_default : goal.returns-in_default
returns-in_default c =
    rw (
      other_word c.args.first.now (codes "ask") c.in_default.not-ask,
      other_word c.args.first.now (codes "build")
          c.in_default.not-build,
      other_word c.args.first.now (codes "failbuild") c.in_default.not-failbuild,
    )
    c.slot_step.ensures
