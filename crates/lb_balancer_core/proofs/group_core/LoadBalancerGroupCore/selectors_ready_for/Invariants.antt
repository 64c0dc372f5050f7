use Rattle.std.proofs.Common.{ℕ, ◌<◌, ◌≤◌}
use Rattle.lb_rebuild_core.specs.GroupCalls.{served_at}
use Rattle.lb_rebuild_core.specs.GroupStates.{After}
use Rattle.lb_balancer_core.proofs.group_core.LoadBalancerGroupCore.selectors_ready_for.Given as goal

abbrev pub invariant-loop-slot : goal.invariant-loop-slot
invariant-loop-slot g l = After l.self.group (λ made e. (slot : ℕ) → slot < l.slot → l.generation ≤ served_at slot e)
