use Rattle.std.proofs.Common.{ℕ, ◌<◌, ◌≤◌}
use Rattle.lb_rebuild.specs.Pass.{IsLater, served_of}
use Rattle.lb_rebuild.proofs.board.Board.selectors_ready_for_as.Given as goal

abbrev pub invariant-loop-slot : goal.invariant-loop-slot
invariant-loop-slot l = IsLater l.fn.pass l.pass × ((k : ℕ) → k < l.slot → l.generation ≤ served_of l.pass k)
