-- What is shown is what is served.
use Rattle.std.proofs.Common.{sym, subst}
use Rattle.lb_balancer.specs.History.{IsShownBy}
use Rattle.lb_balancer.specs.Shown.{ShownValue}
use Rattle.lb_balancer.proofs.Served.{shown-of}
use Rattle.lb_balancer.proofs.balancing.shown_of.Goals as goal

pub returns-clause-shown : goal.returns-clause-shown
returns-clause-shown g c =
    let is = c.in_ok-shown.ensures in
    subst (λ (x : ShownValue g.row.S-Config.Denot). IsShownBy g.R.KeyRule.gives c.args.origin.now x) (sym c.in_ok-shared.ensures.ok)
    (shown-of g.R.KeyRule.gives c.args.origin.now c.requires.served is.config is.shows c.requires.registry is.judged)
