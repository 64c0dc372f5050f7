-- A copy of what was found is what is selected.
use Rattle.std.specs.Arc.{arc_value}
use Rattle.lb_select_base.proofs.Copies.{copied_holds}
use Rattle.lb_rebuild_core.specs.GroupCalls.{AcceptsBy}
use Rattle.lb_balancer.specs.Selections.{SelectsFrom}
use Rattle.lb_balancer.proofs.balancing.Balancing.select_kept.Goals as goal

pub returns : goal.returns
returns g c = record {
  answers = copied_holds
      (SelectsFrom g.R.KeyRule.gives c.args.self.now (AcceptsBy g.F.Fn c.args.accept.now) c.args.max_iterations
      g.S.BackendSelection.walks c.args.key.now (arc_value c.args.kept.now.shown))
      c.find_kept-found.result c.copied_answer.result c.find_kept-found.ensures.answers c.copied_answer.ensures;
}
