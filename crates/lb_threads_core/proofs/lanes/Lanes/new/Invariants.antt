-- Each lane so far has the key, and there are as many as rounds.
use Rattle.std.proofs.Common.{◌≡◌, All, length}
use Rattle.lb_threads_core.proofs.lanes.Lanes.new.Given as goal

abbrev pub invariant-loop : goal.invariant-loop
invariant-loop g l = record {
  keyed : All (λ lane. lane.slot ≡ l.key) l.lanes.items;
  counted : length l.lanes.items ≡ l.counter;
}
