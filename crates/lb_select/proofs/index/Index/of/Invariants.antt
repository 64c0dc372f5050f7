use Rattle.lb_select.proofs.Indexing.{IsBegun}
use Rattle.lb_select.proofs.index.Index.of.Given as goal

abbrev pub invariant-loop-bucket : goal.invariant-loop-bucket
invariant-loop-bucket g l = IsBegun l.entries l.shift l.bucket l.at l.starts.items
