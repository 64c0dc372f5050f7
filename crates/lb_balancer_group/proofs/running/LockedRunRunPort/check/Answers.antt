use Rattle.lb_balancer_group.proofs.running.LockedRunRunPort.check.Goals as goal

pub starts-requires : goal.starts-requires
starts-requires g c = (c.requires c.args.self.now.starts.now).at _
