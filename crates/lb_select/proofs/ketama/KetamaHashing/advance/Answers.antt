use Rattle.std.proofs.Common.{◌<◌, length, arith}
use Rattle.lb_select.specs.PlacedSeen.{placed_seen}
use Rattle.lb_select.proofs.Walking.{owner_inside, stepped}
use Rattle.lb_select.proofs.ketama.KetamaHashing.advance.Goals as goal

pub index-requires-2 : goal.index-requires-2
index-requires-2 c =
    let inside : c.index.result.now.1 < length c.self.inside.owners.items
    = owner_inside (placed_seen c.self.inside) c.self.invariant.placed c.in_ok-at.at c.index.result.now c.in_ok-at.ensures.0
    c.index.ensures in
    omega (arith, inside, c.self.inside.owners.ok.0)

pub returns : goal.returns
returns c =
    rw (← c.self.view_is)
    (stepped (placed_seen c.self.inside) c.self.invariant.placed c.args.walk.now.at c.in_ok-at.at c.index.result.now c.index-2.result.now
    c.in_ok-at.ensures.0 c.in_ok-at.ensures.1 c.index.ensures c.index-2.ensures)
