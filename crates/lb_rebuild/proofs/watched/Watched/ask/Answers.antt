-- It leaves the newest generation and what is served.
use Rattle.std.proofs.Common.{◌∙◌, sym, refl}
use Rattle.lb_rebuild_core.specs.SlotsCalls.{ask_events}
use Rattle.lb_rebuild.proofs.Words.{quiet_call, quiet_ask}
use Rattle.lb_rebuild.proofs.watched.Watched.ask.Goals as goal

pub invariant_of-self : goal.invariant_of-self
invariant_of-self g c =
    let w = c.self.invariant in (
      w.0,
      w.1 ∙ sym (quiet_call (λ made e. ask_events c.args.slot c.args.now c.ask.result) c.past.ensures refl
          (λ made e. quiet_ask c.args.slot c.args.now c.ask.result) c.ask.ensures.stands),
      w.2,
    )
