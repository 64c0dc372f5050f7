-- the gate stays the group's
use Rattle.std.proofs.Common.{◌≡◌}
use Rattle.lb_cost.proofs.group.rounds.Given as goal

abbrev pub invariant-loop-number : goal.invariant-loop-number
invariant-loop-number g l = l.gate.id ≡ l.group.gate
