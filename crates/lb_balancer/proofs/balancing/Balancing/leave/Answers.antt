-- The view is marked, and its newest generation released.
use Rattle.lb_threads_core.proofs.Histories.{later}
use Rattle.lb_balancer.proofs.Renewals.{left_later}
use Rattle.lb_balancer.proofs.balancing.Balancing.leave.Goals as goal

pub put_registry-requires-clause-registry : goal.put_registry-requires-clause-registry
put_registry-requires-clause-registry g c =
    later c.take_registry-cells.ensures.registry (left_later c.take-held.result.value.served.view c.founded.ensures c.leave.ensures.after)
