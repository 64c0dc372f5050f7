-- It leaves the newest generation and what is served.
use Rattle.std.proofs.Common.{◌∙◌, sym, refl}
use Rattle.lb_rebuild_core.specs.SlotsCalls.{ticket_events}
use Rattle.lb_rebuild_core.specs.GroupHistory.{slot_events}
use Rattle.lb_rebuild.proofs.Words.{quiet_call, quiet_ticket}
use Rattle.lb_rebuild.proofs.watched.Watched.ticket.Goals as goal

pub invariant_of-self : goal.invariant_of-self
invariant_of-self g c =
    let w = c.self.invariant in (
      w.0,
      w.1 ∙ sym (quiet_call (λ made e. ticket_events made c.args.reader.now.slot c.args.reader.now.generation c.ticket.result
          (slot_events e)) c.past.ensures refl
          (λ made e. quiet_ticket made c.args.reader.now.slot c.args.reader.now.generation c.ticket.result (slot_events e))
          c.ticket.ensures.stands),
      w.2,
    )
