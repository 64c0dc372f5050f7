use Rattle.std.proofs.Common.{◌≡◌, ◌+◌}
use Rattle.lb_select.specs.Weights.{total_weight}
use Rattle.lb_select.proofs.weighted.sum_of_weights.Given as goal

-- the weights so far and those to come
abbrev pub invariant-loop-backend : goal.invariant-loop-backend
invariant-loop-backend l = l.total + total_weight l.backend-iterator ≡ total_weight l.backends.keys
