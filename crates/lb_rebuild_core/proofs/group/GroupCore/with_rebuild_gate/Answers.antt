use Rattle.std.proofs.Common.{}
use Rattle.lb_rebuild_core.specs.GroupHistory.{slot_events}
use Rattle.lb_rebuild_core.proofs.group.GroupCore.with_rebuild_gate.Goals as goal

pub invariant_of-self : goal.invariant_of-self
invariant_of-self g c =
    let p = c.self.invariant in
    let made = p.0 in
    let s = p.1.1 in (
      record made { gate = c.args.gate.now.id },
      (
        p.1.0,
        record { few = s.few; group = c.with_rebuild_gate.ensures.stands made (slot_events p.1.0) s.group; view = s.view },
      ),
    )
