-- What crosses to the thread of the service: the bounds of this function say it.
use Rattle.lb_example.proofs.groups.run.Goals as goal

pub run_beside-requires-send-C : goal.run_beside-requires-send-C
run_beside-requires-send-C g c κs within = c.type_bounds.send-C

pub run_beside-requires-sync-R : goal.run_beside-requires-sync-R
run_beside-requires-sync-R g c κs within = c.type_bounds.sync-R

pub run_beside-requires-sync-C : goal.run_beside-requires-sync-C
run_beside-requires-sync-C g c κs within = c.type_bounds.sync-C
