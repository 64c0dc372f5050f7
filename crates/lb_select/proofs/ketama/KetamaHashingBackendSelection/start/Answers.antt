use Rattle.std.proofs.Common.{refl, []}
use Rattle.lb_select.proofs.ketama.KetamaHashingBackendSelection.start.Goals as goal

-- nothing is drawn
pub returns-clause-begins : goal.returns-clause-begins
returns-clause-begins g c = ([], refl, c.start_of-at.ensures.start)
