use Rattle.lb_proxy.proofs.MetricsLemmas.{read_back}
use Rattle.lb_proxy.proofs.metrics.label_law.Goals as goal

pub returns : goal.returns
returns c = λ value. read_back value
