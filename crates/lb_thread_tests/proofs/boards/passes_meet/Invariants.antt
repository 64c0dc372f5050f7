use Rattle.std.proofs.Common.{◌≡◌}
use Rattle.lb_thread_tests.proofs.boards.passes_meet.Given as goal

abbrev pub invariant-loop-generation : goal.invariant-loop-generation
invariant-loop-generation g l =
    (l.writer.board ≡ l.initial.writer.board) × (l.one.board ≡ l.initial.one.board) × (l.other.board ≡ l.initial.other.board)
