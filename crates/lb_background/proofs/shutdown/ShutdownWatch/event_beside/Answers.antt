-- The signal's seat is the sender's, so what it finds is what it stored.
use Rattle.std.proofs.Common.{◌∙◌, sym, ap, arith}
use Rattle.lb_background.specs.Signals.{event_of, told}
use Rattle.lb_background.proofs.Lines.{finds_as, tells_latest}
use Rattle.lb_background.proofs.shutdown.ShutdownWatch.event_beside.Goals as goal

pub load-requires : goal.load-requires
load-requires c =
    let i = c.signal.invariant in (
      ap (λ s. s.pair) c.signal.view_is ∙ c.requires ∙ sym c.self.view_is
          ∙ ap (λ l. l.table.shared.table_id) (sym c.deref.ensures),
      omega (arith, c.deref.result.now.one),
      finds_as _ _ _ _ i.1 i.2,
    )

pub returns-clause-event : goal.returns-clause-event
returns-clause-event c =
    c.event_of.ensures ∙ ap event_of c.load.ensures.2.0 ∙ tells_latest c.signal.inside.seat.me.0.says c.signal.invariant.3
    ∙ ap (λ s. told s.latest) c.signal.view_is
