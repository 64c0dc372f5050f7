-- both passes stay the group's
use Rattle.std.proofs.Common.{◌≡◌}
use Rattle.std.specs.Arc.{arc_value}
use Rattle.lb_soak.proofs.soak_threads.uses.Given as goal

abbrev pub invariant-loop-turn : goal.invariant-loop-turn
invariant-loop-turn g l = (l.pass.board ≡ (arc_value l.group.shared).board) × (l.other.board ≡ (arc_value l.group.shared).board)
