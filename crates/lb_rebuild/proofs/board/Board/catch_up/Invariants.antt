use Rattle.lb_rebuild.specs.Pass.{IsLater}
use Rattle.lb_rebuild.proofs.board.Board.catch_up.Given as goal

abbrev pub invariant-loop : goal.invariant-loop
invariant-loop g l = IsLater l.fn.pass l.pass
