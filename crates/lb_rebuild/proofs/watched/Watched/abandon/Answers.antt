-- It leaves the newest generation and what is served.
use Rattle.std.proofs.Common.{◌∙◌, sym, refl}
use Rattle.lb_rebuild_core.specs.SlotsCalls.{abandon_events}
use Rattle.lb_rebuild.proofs.Words.{quiet_call, quiet_abandon}
use Rattle.lb_rebuild.proofs.watched.Watched.abandon.Goals as goal

pub invariant_of-self : goal.invariant_of-self
invariant_of-self g c =
    let w = c.self.invariant in (
      w.0,
      w.1 ∙ sym (quiet_call (λ made e. abandon_events c.args.built c.abandon.result) c.past.ensures refl
          (λ made e. quiet_abandon c.args.built c.abandon.result) c.abandon.ensures.stands),
      w.2,
    )
