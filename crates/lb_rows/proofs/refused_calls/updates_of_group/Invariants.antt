-- the registry stays the group's
use Rattle.std.proofs.Common.{◌≡◌}
use Rattle.lb_rows.proofs.refused_calls.updates_of_group.Given as goal

abbrev pub invariant-loop-row : goal.invariant-loop-row
invariant-loop-row g l = l.registry.id ≡ l.group.group.registry
