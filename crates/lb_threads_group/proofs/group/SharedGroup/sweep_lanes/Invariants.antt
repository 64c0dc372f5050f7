-- The group stays the same one.
use Rattle.lb_rebuild_core.specs.GroupStates.{SameSite}
use Rattle.lb_threads_group.specs.Shared.{IsSame}
use Rattle.lb_threads_group.proofs.group.SharedGroup.sweep_lanes.Given as goal

abbrev pub invariant-loop-lane : goal.invariant-loop-lane
invariant-loop-lane g l = record {
  site : SameSite l.self.core l.group.core;
  same : IsSame l.fn.group l.group;
}
