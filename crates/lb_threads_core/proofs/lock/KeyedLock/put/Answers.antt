-- The seat has the lock's one slot, and swaps in 0.
use Rattle.std.proofs.Common.{◌∙◌, None, Some, arith}
use Rattle.lb_threads_core.proofs.Exchanges.{goes, exchanged}
use Rattle.lb_threads_core.proofs.lock.KeyedLock.put.Goals as goal

pub swap-word-requires : goal.swap-word-requires
swap-word-requires g c =
    let e = c.exchange.ensures in
    let one = c.args.self.now.one in (
      e.0 ∙ c.requires.here,
      omega (arith, one.0),
      goes (g.I.LockRule.holds c.args.self.now.table.shared.key) c.args.self.now.table.shared.table_id.slots _ _ c.args.held.value one.1
          (exchanged 0 None (Some c.args.held.value) c.args.held.seat.me _ c.args.held.out e.3) c.requires.fact,
    )
