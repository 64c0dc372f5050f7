use Rattle.std.proofs.Common.{◌≡◌}
use Rattle.lb_thread_tests.proofs.boards.never_falls.Given as goal

abbrev pub invariant-loop : goal.invariant-loop
invariant-loop l = l.pass.board ≡ l.board
