-- What the threads are sent may be sent, and be shared: the caller's bounds say so.
use denote.Param.Send.{param_send}
use Rattle.lb_balancer_group.proofs.group.fn.LoadBalancerGroup.run.starts.Goals as goal

pub start_workers-requires-send-S : goal.start_workers-requires-send-S
start_workers-requires-send-S g c κs within = param_send 0 g.row.S c.requires.1.1.1.1.1.1.1.1.1.1.1.1.1.1.1.0

pub start_workers-requires-send-R : goal.start_workers-requires-send-R
start_workers-requires-send-R g c κs within = param_send 2 g.row.R c.requires.1.1.1.1.1.1.1.1.1.1.1.1.1.1.1.1

pub start_workers-requires-send-C : goal.start_workers-requires-send-C
start_workers-requires-send-C g c κs within = param_send 3 g.row.C c.requires.1.1.1.1.1.1.1.1.1.1.1.1.1.1.1.2

pub start_workers-requires-send-S-Config : goal.start_workers-requires-send-S-Config
start_workers-requires-send-S-Config g c κs within = param_send 4 g.row.S-Config c.requires.1.1.1.1.1.1.1.1.1.1.1.1.1.1.1.3

pub start_workers-requires-send-S-Walk : goal.start_workers-requires-send-S-Walk
start_workers-requires-send-S-Walk g c κs within = param_send 5 g.row.S-Walk c.requires.1.1.1.1.1.1.1.1.1.1.1.1.1.1.1.4

pub run_health_check-requires-send-S : goal.run_health_check-requires-send-S
run_health_check-requires-send-S g c κs within = param_send 0 g.row.S c.requires.1.1.1.1.1.1.1.1.1.1.1.1.1.1.1.0

pub run_health_check-requires-send-R : goal.run_health_check-requires-send-R
run_health_check-requires-send-R g c κs within = param_send 2 g.row.R c.requires.1.1.1.1.1.1.1.1.1.1.1.1.1.1.1.1

pub run_health_check-requires-send-C : goal.run_health_check-requires-send-C
run_health_check-requires-send-C g c κs within = param_send 3 g.row.C c.requires.1.1.1.1.1.1.1.1.1.1.1.1.1.1.1.2

pub run_health_check-requires-send-S-Config : goal.run_health_check-requires-send-S-Config
run_health_check-requires-send-S-Config g c κs within = param_send 4 g.row.S-Config c.requires.1.1.1.1.1.1.1.1.1.1.1.1.1.1.1.3

pub run_health_check-requires-send-S-Walk : goal.run_health_check-requires-send-S-Walk
run_health_check-requires-send-S-Walk g c κs within = param_send 5 g.row.S-Walk c.requires.1.1.1.1.1.1.1.1.1.1.1.1.1.1.1.4
