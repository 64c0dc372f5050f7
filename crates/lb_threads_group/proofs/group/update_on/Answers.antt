use Rattle.lb_threads_group.specs.Group.{ScheduledUnder}
use Rattle.lb_threads_group.proofs.Sites.{updated_at}
use Rattle.lb_threads_group.proofs.group.update_on.Goals as goal

pub returns : goal.returns
returns g c =
    updated_at (λ p. p.group.now) (λ v. v) g.K.MomentSource.reads g.D.ServiceDiscovery.finds (ScheduledUnder g.R.KeyRule.gives)
    c.args.discovery.now c.args.clock.now c.args.port.now c.update_through.result c.update_through.new.clock c.update_through.new.port
    c.update_through.ensures
