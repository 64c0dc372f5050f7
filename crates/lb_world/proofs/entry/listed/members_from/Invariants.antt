use Rattle.std.proofs.Common.{◌≡◌}
use Rattle.lb_world.specs.History.{members_in}
use Rattle.lb_world.proofs.entry.listed.members_from.Given as goal

abbrev pub invariant-loop-listing : goal.invariant-loop-listing
invariant-loop-listing l = record { gathered : l.members.keys ≡ members_in l.yielded }
