use Rattle.std.proofs.Common.{◌≡◌}
use Rattle.lb_cost.proofs.board.read_often.Given as goal

abbrev pub invariant-loop : goal.invariant-loop
invariant-loop l = l.pass.board ≡ l.board
