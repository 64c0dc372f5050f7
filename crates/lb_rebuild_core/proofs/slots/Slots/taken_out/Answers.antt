-- The slot is one of the list.
use Rattle.std.proofs.Common.{arith, ap, ◌∙◌, length, refl}
use Rattle.std.proofs.lemmas.Bool.{lt-ltb}
use Rattle.lb_rebuild_core.specs.SlotsHistory.{taken_out_number}
use Rattle.lb_rebuild_core.specs.Values.{SlotValue}
use Rattle.lb_rebuild_core.proofs.SlotsSteps.{facing, beyond}
use Rattle.lb_rebuild_core.proofs.slots.Slots.taken_out.Goals as goal

pub returns-then-slot-len : goal.returns-then-slot-len
returns-then-slot-len g c made h s =
    rw (beyond _ c.args.slot c.self.view_is (omega arith) s) refl

pub returns : goal.returns
returns g c made h s =
    let f = facing c.args.slot c.index.result.now c.index.result.now c.self.view_is (omega arith) c.index.ensures s in
    rw (lt-ltb c.args.slot (length made.configs) f.inside) (c.taken_out.ensures
    ∙ ap (λ (z : SlotValue g.row.S-Config.Denot). taken_out_number z.extra) f.slot)
