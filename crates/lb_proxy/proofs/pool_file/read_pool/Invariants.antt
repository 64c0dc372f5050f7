use Rattle.std.proofs.Common.{length}
use Rattle.lb_proxy.specs.PoolFile.{lines_of, lines_left}
use Rattle.lb_proxy.proofs.PoolFileLemmas.{IsRead}
use Rattle.lb_proxy.proofs.pool_file.read_pool.Given as goal

abbrev pub invariant-loop-rest : goal.invariant-loop-rest
invariant-loop-rest l = IsRead (lines_of l.fn.text) l.number l.backends.items (lines_left l.rest)

abbrev pub decreases-loop-rest : goal.decreases-loop-rest
decreases-loop-rest l = length (lines_left l.rest)
