use Rattle.lb_health_core.specs.Internal.Row.{stored_health}
use Rattle.lb_health_core.proofs.stored.StoredCells.new.Goals as goal

pub invariant_of-result : goal.invariant_of-result
invariant_of-result g c = c.new-2.ensures (stored_health c.new.result.entries)
