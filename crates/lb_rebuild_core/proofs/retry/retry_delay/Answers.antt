-- The lines of the table, and a second from the eighth failure on.
use Rattle.std.proofs.Common.{refl, arith}
use Rattle.lb_rebuild_core.proofs.Delays.{line, longest}
use Rattle.lb_rebuild_core.proofs.retry.retry_delay.Goals as goal
use Rattle.lb_rebuild_core.proofs.retry.retry_delay.Goals.{in-1, in-2, in-3, in-4, in-5, in-6, in-7, in_default}

pub returns : goal.returns
returns c = elim c.match-failures.branch [
  | in-1 w ↦ line 1 10 _ _ refl (omega arith) (omega arith)
  | in-2 w ↦ line 2 20 _ _ refl (omega arith) (omega arith)
  | in-3 w ↦ line 3 40 _ _ refl (omega arith) (omega arith)
  | in-4 w ↦ line 4 80 _ _ refl (omega arith) (omega arith)
  | in-5 w ↦ line 5 160 _ _ refl (omega arith) (omega arith)
  | in-6 w ↦ line 6 320 _ _ refl (omega arith) (omega arith)
  | in-7 w ↦ line 7 640 _ _ refl (omega arith) (omega arith)
  | in_default w ↦ longest _ _ (omega arith) (omega arith)
]
