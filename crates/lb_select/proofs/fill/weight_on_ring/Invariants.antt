use Rattle.std.proofs.Common.{◌≡◌, ◌+◌}
use Rattle.lb_select.specs.Choices.{ring_weight}
use Rattle.lb_select.specs.declared.fill.TheConstants.{MOST_WEIGHT}
use Rattle.lb_select.proofs.fill.weight_on_ring.Given as goal

abbrev pub invariant-loop-backend : goal.invariant-loop-backend
invariant-loop-backend l = ring_weight l.backends.keys + l.left ≡ MOST_WEIGHT + ring_weight l.backend-iterator
