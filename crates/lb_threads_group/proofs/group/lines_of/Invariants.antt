use Rattle.std.proofs.Common.{◌≡◌, length}
use Rattle.lb_threads_group.proofs.group.lines_of.Given as goal

-- there are as many counters as the loop went round
abbrev pub invariant-loop : goal.invariant-loop
invariant-loop l = length l.lines.items ≡ l.counter
