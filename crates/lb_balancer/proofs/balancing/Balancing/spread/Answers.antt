-- A copy of what is kept is kept in each lane.
use Rattle.std.proofs.Common.{subst, sym}
use Rattle.lb_balancer.specs.History.{BalancerValue}
use Rattle.lb_balancer.specs.Kept.{IsKept}
use Rattle.lb_balancer.proofs.balancing.Balancing.spread.Goals as goal

pub renew-requires-clause-fits : goal.renew-requires-clause-fits
renew-requires-clause-fits g c =
    let Known = BalancerValue g.row.D.Denot g.row.S-Config.Denot g.row.R.Denot in
    subst (λ (b : Known). IsKept g.R.KeyRule.gives b c.in-Ok.kept.shown c.in-Ok.kept.ready) (sym c.self.view_is)
    (c.in-Ok.ensures c.args.self.now c.requires)
