use Rattle.lb_balancer_group.proofs.running.LockedRunRunPort.wait.Goals as goal

pub starts-requires : goal.starts-requires
starts-requires g c = (c.requires c.loop.self.starts.now).at _
