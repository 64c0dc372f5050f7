-- No step has been made at a new board.
use Rattle.std.proofs.Common.{◌+◌, rules}
use Rattle.lb_rebuild.proofs.BoardSteps.{total_none}
use Rattle.lb_rebuild.proofs.board.Board.new.Goals as goal

pub returns-clause-writer : goal.returns-clause-writer
returns-clause-writer c = let none = total_none (c.args.slots + 1) in search rules
