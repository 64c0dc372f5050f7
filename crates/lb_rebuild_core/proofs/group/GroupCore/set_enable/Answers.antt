-- A flag is the view's alone.
use Rattle.std.proofs.Common.{◌∷◌}
use Rattle.lb_rebuild_core.specs.GroupHistory.{Set}
use Rattle.lb_rebuild_core.specs.GroupStates.{views_of}
use Rattle.lb_rebuild_core.proofs.group.GroupCore.set_enable.Goals as goal

pub invariant_of-self : goal.invariant_of-self
invariant_of-self g c =
    let p = c.self.invariant in
    let s = p.1.1 in (
      p.0,
      (
        Set c.args.backend.now c.args.enabled ∷ p.1.0,
        record { few = s.few; group = s.group; view = c.set_enable.ensures.after (views_of p.0 p.1.0) s.view },
      ),
    )
