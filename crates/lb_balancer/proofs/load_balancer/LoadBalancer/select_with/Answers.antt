-- The selection is one in what was shown, where the lane had none.
use Rattle.std.specs.Arc.{arc_value}
use Rattle.lb_rebuild_core.specs.GroupCalls.{AcceptsBy}
use Rattle.lb_balancer.specs.History.{IsShownBy}
use Rattle.lb_balancer.specs.Selections.{SelectsFrom}
use Rattle.lb_balancer.specs.Shown.{ShownValue}
use Rattle.lb_balancer_core.proofs.Memberships.{if-answered}
use Rattle.lb_balancer.proofs.load_balancer.LoadBalancer.select_with.Goals as goal

pub returns-clause-answers : goal.returns-clause-answers
returns-clause-answers g c =
    let gives = g.R.KeyRule.gives in
    let b = c.args.self.now.shared in
    let Found : Type 0 = (x : ShownValue g.row.S-Config.Denot) × IsShownBy gives b x
    × SelectsFrom gives b (AcceptsBy g.F.Fn c.args.accept.now) c.args.max_iterations g.S.BackendSelection.walks c.args.key.now x
    c.select_kept-answer.result in
    let kept = c.in_ok-kept.kept in
    if-answered c.select_kept-answer.result Found (arc_value kept.shown, c.in_ok-kept.ensures.kept.0, c.select_kept-answer.ensures.answers)
