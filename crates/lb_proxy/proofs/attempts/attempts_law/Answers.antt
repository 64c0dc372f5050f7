use Rattle.lb_proxy.proofs.AttemptsLemmas.{fair_attempts}
use Rattle.lb_proxy.proofs.attempts.attempts_law.Goals as goal

pub returns : goal.returns
returns c = λ events. fair_attempts events
