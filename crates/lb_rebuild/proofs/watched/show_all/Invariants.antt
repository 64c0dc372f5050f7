use Rattle.std.proofs.Common.{◌≡◌, ◌+◌}
use Rattle.lb_rebuild.specs.Watched.{words_of}
use Rattle.lb_rebuild.proofs.Shown.{Shown}
use Rattle.lb_rebuild.proofs.watched.show_all.Given as goal

abbrev pub invariant-loop-slot : goal.invariant-loop-slot
invariant-loop-slot g l = (l.writer.board ≡ l.board) × Shown (words_of l.core.group) l.writer.words (l.slot + 1)
