-- The members that are shown are those that were judged.
use Rattle.std.proofs.Common.{List, subst, sym}
use Rattle.lb_select_base.specs.Backends.{Member}
use Rattle.lb_balancer_core.specs.Balancer.{IsJudged}
use Rattle.lb_balancer.specs.Shown.{AreUnready}
use Rattle.lb_balancer.proofs.serving.Serving.show.Goals as goal

pub returns-clause-judged : goal.returns-clause-judged
returns-clause-judged g c =
    let p = c.founded.ensures in
    let right = IsJudged g.R.KeyRule.gives c.args.self.now.served.view c.args.registry.now in
    subst (λ (ms : List Member). AreUnready right ms c.in_ok-unready_of.field-0.keys)
    (sym (c.in_ok-get_backend.ensures.members p.0 p.1)) (c.in_ok-unready_of.ensures.judged p.0 p.1)
