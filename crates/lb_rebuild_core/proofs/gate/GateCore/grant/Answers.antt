-- The seat that was at home is the writer's.
use Rattle.std.proofs.Common.{◌≡◌, ◌∙◌, sym, arith, Some}
use Rattle.lb_rebuild_core.proofs.GateStores.{stores_as}
use Rattle.lb_rebuild_core.proofs.gate.GateCore.grant.Goals as goal

pub store-requires : goal.store-requires
store-requires c =
    let g = c.self.invariant in
    let there : c.self.inside.home ≡ Some c.in_ok-seat.seat = sym c.take.ensures.value ∙ c.in_ok-seat.was in
    let s = rw there at g.1 in
    (s.0, omega (arith, g.0), stores_as _ 0 1 _ _ s.1 s.2)
