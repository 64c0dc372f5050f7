-- What the worker's thread is sent may be sent: the caller's bounds say so.
use denote.Param.Send.{param_send}
use Rattle.lb_balancer_group.proofs.start.fn.start_workers.start_workers_by.Goals as goal

pub starts_worker-requires-send-S : goal.starts_worker-requires-send-S
starts_worker-requires-send-S g c κs within = param_send 0 g.row.S c.requires.1.1.1.1.1.1.1.1.1.1.1.1.1.1.0

pub starts_worker-requires-send-R : goal.starts_worker-requires-send-R
starts_worker-requires-send-R g c κs within = param_send 1 g.row.R c.requires.1.1.1.1.1.1.1.1.1.1.1.1.1.1.1

pub starts_worker-requires-send-C : goal.starts_worker-requires-send-C
starts_worker-requires-send-C g c κs within = param_send 2 g.row.C c.requires.1.1.1.1.1.1.1.1.1.1.1.1.1.1.2

pub starts_worker-requires-send-S-Config : goal.starts_worker-requires-send-S-Config
starts_worker-requires-send-S-Config g c κs within = param_send 5 g.row.S-Config c.requires.1.1.1.1.1.1.1.1.1.1.1.1.1.1.5

pub starts_worker-requires-send-S-Walk : goal.starts_worker-requires-send-S-Walk
starts_worker-requires-send-S-Walk g c κs within = param_send 6 g.row.S-Walk c.requires.1.1.1.1.1.1.1.1.1.1.1.1.1.1.6
