-- The slots so far were seen to serve it.
use Rattle.std.specs.Arc.{arc_value}
use Rattle.lb_balancer_group.specs.Readiness.{ServeFrom}
use Rattle.lb_balancer_group.proofs.group.LoadBalancerGroup.selectors_ready_for.Given as goal

abbrev pub invariant-loop-slot : goal.invariant-loop-slot
invariant-loop-slot g l = ServeFrom (arc_value l.self.shared).core l.slot l.generation
