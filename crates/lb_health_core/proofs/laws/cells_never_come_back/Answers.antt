use Rattle.lb_health_core.proofs.KeptLemmas.{kept_all_along}
use Rattle.lb_health_core.proofs.laws.cells_never_come_back.Goals as goal

pub returns : goal.returns
returns c = λ key_of events later cell given kept. kept_all_along key_of later events cell given kept
