use Rattle.std.proofs.Common.{refl, []}
use Rattle.lb_select.proofs.ketama.KetamaHashingBackendSelection.step.Goals as goal

-- nothing is drawn
pub returns-clause-step : goal.returns-clause-step
returns-clause-step g c = ([], refl, rw c.get.ensures c.advance-index.ensures)
