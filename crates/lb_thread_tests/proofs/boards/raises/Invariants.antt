use Rattle.std.proofs.Common.{◌≡◌}
use Rattle.lb_thread_tests.proofs.boards.raises.Given as goal

abbrev pub invariant-loop-generation : goal.invariant-loop-generation
invariant-loop-generation l = l.writer.board ≡ l.board
