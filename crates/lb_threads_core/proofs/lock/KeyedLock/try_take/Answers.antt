-- A swap that finds 0 has taken the value.
use Rattle.std.proofs.Common.{arith, Some}
use Rattle.lb_threads_core.proofs.Exchanges.{comes, alone}
use Rattle.lb_threads_core.proofs.lock.KeyedLock.try_take.Goals as goal

pub swap_new_seat-found-requires : goal.swap_new_seat-found-requires
swap_new_seat-found-requires g c = (
  omega (arith, c.args.self.now.one.0),
  comes (g.I.LockRule.holds c.args.self.now.table.shared.key) c.args.self.now.table.shared.key _ c.args.word c.requires,
)

pub exchange-requires : goal.exchange-requires
exchange-requires g c =
    let e = c.swap_new_seat-found.ensures in
    let t = e.1 (c.if-found-ne-FREE.false) in
    (e.0, (Some t.0, alone 0 (Some t.0) _ t.1))
