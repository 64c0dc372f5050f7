-- It leaves the newest generation and what is served.
use Rattle.std.proofs.Common.{◌∙◌, sym, refl}
use Rattle.lb_rebuild_core.specs.SlotsCalls.{fail_events}
use Rattle.lb_rebuild.proofs.Words.{quiet_call, quiet_fail}
use Rattle.lb_rebuild.proofs.watched.Watched.fail.Goals as goal

pub invariant_of-self : goal.invariant_of-self
invariant_of-self g c =
    let w = c.self.invariant in (
      w.0,
      w.1 ∙ sym (quiet_call (λ made e. fail_events c.args.job c.args.now c.fail.result) c.past.ensures refl
          (λ made e. quiet_fail c.args.job c.args.now c.fail.result) c.fail.ensures.stands),
      w.2,
    )
