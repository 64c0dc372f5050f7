-- The slot is one of the list.
use Rattle.std.proofs.Common.{arith, ap, ◌∙◌, refl}
use Rattle.lb_rebuild_core.specs.Values.{SlotValue, ServingValue}
use Rattle.lb_rebuild_core.proofs.SlotsSteps.{facing, beyond}
use Rattle.lb_rebuild_core.proofs.CallSteps.{shown}
use Rattle.lb_rebuild_core.proofs.slots.Slots.served.Goals as goal

pub returns-then-slot-len : goal.returns-then-slot-len
returns-then-slot-len g c made h s =
    rw (beyond _ c.args.slot c.self.view_is (omega arith) s) refl

pub returns : goal.returns
returns g c made h s =
    let f = facing c.args.slot c.index.result.now c.index.result.now c.self.view_is (omega arith) c.index.ensures s in
    shown f _ _ (ap (λ (v : ServingValue g.row.S-Config.Denot). v.generation) c.serving.view_is
    ∙ ap (λ (z : SlotValue g.row.S-Config.Denot). z.serving.generation) f.slot)
