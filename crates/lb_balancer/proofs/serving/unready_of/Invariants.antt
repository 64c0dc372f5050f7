-- The members before those to come were looked at.
use Rattle.std.specs.Prelude.{List}
use Rattle.lb_health_view.specs.ViewEvents.{ViewEvent, membership_after}
use Rattle.lb_health_view.specs.Views.{IsViewAfter}
use Rattle.lb_balancer_core.specs.Balancer.{IsJudged}
use Rattle.lb_balancer.proofs.Parted.{IsParted}
use Rattle.lb_balancer.proofs.serving.unready_of.Given as goal

abbrev pub invariant-loop-backend : goal.invariant-loop-backend
invariant-loop-backend g l = (views : List ViewEvent) → IsViewAfter views l.served.view
    → IsParted (IsJudged g.R.KeyRule.gives l.served.view l.registry) (membership_after views) l.unready.keys l.backend-iterator
