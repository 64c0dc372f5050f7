use Rattle.std.proofs.Common.{◌<◌}
use Rattle.lb_select.proofs.index.shift_of.Given as goal

abbrev pub invariant-loop-shift : goal.invariant-loop-shift
invariant-loop-shift l = l.shift < 32

abbrev pub decreases-loop-shift : goal.decreases-loop-shift
decreases-loop-shift l = l.shift
