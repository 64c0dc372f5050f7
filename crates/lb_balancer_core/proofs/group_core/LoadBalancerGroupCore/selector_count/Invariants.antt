use Rattle.std.proofs.Common.{◌≤◌, length}
use Rattle.lb_rebuild_core.specs.GroupStates.{After}
use Rattle.lb_balancer_core.proofs.group_core.LoadBalancerGroupCore.selector_count.Given as goal

abbrev pub invariant-loop-slot : goal.invariant-loop-slot
invariant-loop-slot g l = After l.self.group (λ made e. l.slot ≤ length made.configs)
