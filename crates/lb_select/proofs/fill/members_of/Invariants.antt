use Rattle.std.proofs.Common.{◌≡◌, ◌++◌}
use Rattle.lb_select.proofs.fill.members_of.Given as goal

abbrev pub invariant-loop-backend : goal.invariant-loop-backend
invariant-loop-backend l = l.list.items ++ l.backend-iterator ≡ l.backends.keys
