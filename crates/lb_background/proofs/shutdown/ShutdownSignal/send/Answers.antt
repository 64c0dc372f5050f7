-- The signal's seat is the sender's.
use Rattle.std.proofs.Common.{◌∙◌, sym, ap, arith}
use Rattle.lb_background.proofs.Lines.{stores_as}
use Rattle.lb_background.proofs.shutdown.ShutdownSignal.send.Goals as goal

pub store-requires : goal.store-requires
store-requires c =
    let i = c.self.invariant in (
      sym i.0 ∙ ap (λ l. l.table.shared.table_id) (sym c.deref-line.ensures),
      omega (arith, c.deref-line.result.now.one),
      stores_as _ _ _ _ _ i.1 i.2,
    )
