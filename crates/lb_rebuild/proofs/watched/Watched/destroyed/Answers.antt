-- It leaves the newest generation and what is served.
use Rattle.std.proofs.Common.{◌∙◌, sym, refl}
use Rattle.lb_rebuild_core.specs.SlotsCalls.{done_at}
use Rattle.lb_rebuild_core.specs.SlotsHistory.{Destroyed}
use Rattle.lb_rebuild.proofs.Words.{quiet_call, quiet_done}
use Rattle.lb_rebuild.proofs.watched.Watched.destroyed.Goals as goal

pub invariant_of-self : goal.invariant_of-self
invariant_of-self g c =
    let w = c.self.invariant in (
      w.0,
      w.1 ∙ sym (quiet_call (λ made e. done_at c.args.slot Destroyed c.destroyed.result) c.past.ensures refl
          (λ made e. quiet_done c.args.slot Destroyed c.destroyed.result (λ i h. refl)) c.destroyed.ensures.stands),
      w.2,
    )
