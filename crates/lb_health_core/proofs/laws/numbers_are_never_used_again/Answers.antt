use Rattle.lb_health_core.proofs.LawLemmas.{new_number}
use Rattle.lb_health_core.proofs.laws.numbers_are_never_used_again.Goals as goal

pub returns : goal.returns
returns c = new_number
