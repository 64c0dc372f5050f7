-- A reader entered and selects, and left or is kept; or none entered.
use Rattle.std.proofs.Common.{Ok, Err, refl, subst}
use Rattle.lb_threads_group.specs.Group.{EnteredUnder}
use Rattle.lb_threads_group.specs.Kept.{IsLeftOrKept}
use Rattle.lb_threads_group.proofs.group.SharedGroup.select_entering.Goals as goal

pub returns-in-Ok : goal.returns-in-Ok
returns-in-Ok g c =
    let here = c.args.self.now in
    let reader = c.in-Ok.entry.reader in
    let kept = c.in-Ok.ensures.entry in (
      Ok reader,
      here,
      (subst (λ n. EnteredUnder here.core n (Ok reader)) kept.0 kept.1.0.1, refl),
      (here, c.select_as-answer.ensures, (subst (λ n. IsLeftOrKept here n reader) kept.0 c.keep.ensures, refl)),
    )

pub returns-in-Err : goal.returns-in-Err
returns-in-Err g c = (
  Err c.in-Err.refusal,
  c.args.self.now,
  (c.in-Err.ensures.refused, refl),
  (c.unentered.ensures, refl),
)
