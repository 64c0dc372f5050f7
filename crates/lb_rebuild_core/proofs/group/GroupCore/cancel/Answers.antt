-- The view lives on until the registry applies its mark.
use Rattle.std.proofs.Common.{◌∷◌}
use Rattle.lb_rebuild_core.specs.GroupHistory.{Cancelled, slot_events}
use Rattle.lb_rebuild_core.proofs.group.GroupCore.cancel.Goals as goal

pub invariant_of-self : goal.invariant_of-self
invariant_of-self g c =
    let p = c.self.invariant in
    let s = p.1.1 in
    (p.0, (Cancelled ∷ p.1.0, record { few = s.few; group = c.cancel.ensures.stands p.0 (slot_events p.1.0) s.group; view = s.view }))
