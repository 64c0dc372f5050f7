-- A pass comes with a load of the newest generation's word.
use Rattle.std.proofs.Common.{arith}
use Rattle.lb_rebuild.proofs.BoardSteps.{comes}
use Rattle.lb_rebuild.proofs.board.Board.pass.Goals as goal

pub load_new_seat-newest-requires : goal.load_new_seat-newest-requires
load_new_seat-newest-requires c = (omega (arith, c.self.invariant.0), comes _ _ 0)
