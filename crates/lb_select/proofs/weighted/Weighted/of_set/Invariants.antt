use Rattle.std.proofs.Common.{◌≡◌, ◌++◌}
use Rattle.lb_select.specs.Weights.{total_weight}
use Rattle.lb_select.specs.Sums.{AreSums}
use Rattle.lb_select.proofs.weighted.Weighted.of_set.Given as goal

-- the backends so far and those to come; the sums so far are those of the backends so far
abbrev pub invariant-loop-backend : goal.invariant-loop-backend
invariant-loop-backend g l =
    (l.list.items ++ l.backend-iterator ≡ l.backends.keys) × AreSums l.list.items l.sums × (l.sum ≡ total_weight l.list.items)
