use Rattle.std.proofs.Common.{◌<◌, ◌^◌, ◌≡◌, arith}
use Rattle.lb_select.specs.Crc.{crc}
use Rattle.lb_select.specs.PlacedSeen.{placed_seen}
use Rattle.lb_select.proofs.Walking.{starts_so}
use Rattle.lb_select.proofs.ketama.KetamaHashing.start_of.Goals as goal

pub returns-clause-start : goal.returns-clause-start
returns-clause-start c =
    let place : c.crc32.result ≡ crc c.args.key.now = c.crc32.ensures in
    let low : crc c.args.key.now < 2 ^ 32 = omega arith in
    let splits = rw c.crc32.ensures at c.first_from.ensures.splits in
    rw (← c.self.view_is) (starts_so (placed_seen c.self.inside) c.self.invariant.placed c.args.key.now low c.first_from.result
    c.first_from.ensures.within splits)
