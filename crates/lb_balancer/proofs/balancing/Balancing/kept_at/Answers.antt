-- What is shown is kept, with the words that the caller has.
use Rattle.std.proofs.Common.{subst}
use Rattle.std.specs.Arc.{arc_value}
use Rattle.lb_balancer.specs.History.{BalancerValue, IsShownBy}
use Rattle.lb_balancer.proofs.balancing.Balancing.kept_at.Goals as goal

pub returns-clause-kept : goal.returns-clause-kept
returns-clause-kept g c =
    let Known = BalancerValue g.row.D.Denot g.row.S-Config.Denot g.row.R.Denot in
    let b = c.args.self.now in
    let shown = subst (λ (x : Known). IsShownBy g.R.KeyRule.gives x (arc_value c.in_ok-told.field-0)) c.self.view_is
    c.in_ok-told.ensures.shown in
    c.new.ensures b shown c.requires.ready
