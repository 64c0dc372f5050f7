use Rattle.lb_balancer_group.proofs.running.run_on.Goals as goal

pub starts-requires : goal.starts-requires
starts-requires g c = (c.requires.starts c.args.starts.now).at _
