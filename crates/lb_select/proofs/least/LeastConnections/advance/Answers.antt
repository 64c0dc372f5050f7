use Rattle.std.proofs.Common.{◌≡◌, Some, refl}
use Rattle.std.specs.List.{slice_get}
use Rattle.std.proofs.lemmas.Option.{slice_get_read}
use Rattle.lb_select.proofs.LeastWalking.{step_at}
use Rattle.lb_select.proofs.least.LeastConnections.advance.Goals as goal

pub returns-clause-step : goal.returns-clause-step
returns-clause-step c =
    let found = c.in_ok-reading.ensures.lookup in
    let here : slice_get c.args.walk.now.order.items c.args.walk.now.at ≡ Some c.in_ok-reading.field-0.now
    = rw c.deref.ensures.value at (slice_get_read _ _ _ _ refl found.3.0 found.1) in
    step_at _ _ _ c.in_ok-reading.field-0.now c.requires here
