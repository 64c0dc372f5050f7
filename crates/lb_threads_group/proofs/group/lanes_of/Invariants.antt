-- Each lane of each slot so far has the key.
use Rattle.std.proofs.Common.{◌≡◌, All}
use Rattle.lb_threads_group.proofs.group.lanes_of.Given as goal

abbrev pub invariant-loop : goal.invariant-loop
invariant-loop g l = All (λ s. All (λ lane. lane.slot ≡ l.site) s.lanes.items) l.lanes.items
