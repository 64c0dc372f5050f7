use Rattle.lb_background.proofs.LawLemmas.{shut_returns}
use Rattle.lb_background.proofs.laws.shut_runs_return_law.Goals as goal

pub returns : goal.returns
returns c = shut_returns
