-- The group stays the same one.
use Rattle.lb_rebuild_core.specs.GroupStates.{SameSite}
use Rattle.lb_threads_group.specs.Shared.{IsSame}
use Rattle.lb_threads_group.proofs.group.SharedGroup.fill_lanes.Given as goal

abbrev pub invariant-loop-lane : goal.invariant-loop-lane
invariant-loop-lane g l = record {
  site : SameSite l.self.core l.group.core;
  same : IsSame l.fn.group l.group;
}

abbrev pub invariant-loop-lane-then-is_served-2 : goal.invariant-loop-lane-then-is_served-2
invariant-loop-lane-then-is_served-2 g l = record {
  site : SameSite l.self.core l.group.core;
  same : IsSame l.fn.group l.group;
}
