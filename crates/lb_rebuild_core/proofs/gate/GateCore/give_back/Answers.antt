-- The permit's seat is the writer's, and it is of this gate's table.
use Rattle.std.proofs.Common.{◌∙◌, sym, ap, arith}
use Rattle.lb_rebuild_core.specs.Gate.{GateValue}
use Rattle.lb_rebuild_core.proofs.GateStores.{stores_as}
use Rattle.lb_rebuild_core.proofs.gate.GateCore.give_back.Goals as goal

pub store-requires : goal.store-requires
store-requires c =
    let p = c.permit.invariant in
    let g = c.self.invariant in
    (c.permit.view_is ∙ c.requires ∙ sym (ap (λ (v : GateValue). v.id) c.self.view_is), omega (arith, g.0), stores_as _ 1 0 _ _ p.0 p.1)
