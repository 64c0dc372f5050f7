-- Nothing is taken out before the end.
use Rattle.std.proofs.Common.{◌≡◌}
use Rattle.lb_threads_core.proofs.owner.take_gone.Given as goal

abbrev pub invariant-loop-place : goal.invariant-loop-place
invariant-loop-place l = l.notes ≡ l.fn.notes
