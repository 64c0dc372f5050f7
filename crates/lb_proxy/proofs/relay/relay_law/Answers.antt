use Rattle.lb_proxy.proofs.RelayLemmas.{connected}
use Rattle.lb_proxy.proofs.relay.relay_law.Goals as goal

pub returns : goal.returns
returns c = λ happenings last run. connected happenings last run
