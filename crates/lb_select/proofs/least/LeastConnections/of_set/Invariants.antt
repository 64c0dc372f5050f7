use Rattle.std.proofs.Common.{◌≡◌, ◌++◌}
use Rattle.lb_select.proofs.least.LeastConnections.of_set.Given as goal

-- the backends so far and those to come
abbrev pub invariant-loop-backend : goal.invariant-loop-backend
invariant-loop-backend l = l.list.items ++ l.backend-iterator ≡ l.backends.keys
