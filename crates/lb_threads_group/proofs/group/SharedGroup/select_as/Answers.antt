-- A copy of what was found is what is selected.
use Rattle.lb_balancer_core.specs.Looks.{Answers}
use Rattle.lb_select_base.proofs.Copies.{copied_holds}
use Rattle.lb_threads_group.specs.Kept.{SelectsUnder}
use Rattle.lb_threads_group.proofs.group.SharedGroup.select_as.Goals as goal

pub returns : goal.returns
returns g c =
    copied_holds
    (SelectsUnder g.R.KeyRule.gives (λ b ready a. Answers g.F.Fn c.args.accept.now b ready a) c.args.max_iterations
    g.S.BackendSelection.walks c.args.key.now c.args.self.now c.args.entry.now.reader)
    c.find_as-found.result c.copied_answer.result c.find_as-found.ensures c.copied_answer.ensures
