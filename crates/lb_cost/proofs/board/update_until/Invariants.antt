use Rattle.std.proofs.Common.{◌≡◌}
use Rattle.lb_cost.proofs.board.update_until.Given as goal

abbrev pub invariant-loop-generation : goal.invariant-loop-generation
invariant-loop-generation g l = l.writer.board ≡ l.board
