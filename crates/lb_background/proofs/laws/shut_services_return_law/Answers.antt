use Rattle.lb_background.proofs.ServiceLemmas.{service_shut_returns}
use Rattle.lb_background.proofs.laws.shut_services_return_law.Goals as goal

pub returns : goal.returns
returns c = service_shut_returns
