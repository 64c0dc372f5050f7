-- What is selected by the port is selected at states of its group.
use Rattle.lb_balancer_core.specs.Looks.{Answers}
use Rattle.lb_select_base.proofs.Copies.{copies_hold}
use Rattle.lb_threads_group.specs.Group.{ReadyUnder}
use Rattle.lb_threads_group.specs.Kept.{SelectsUnder}
use Rattle.lb_threads_group.proofs.Sites.{selects_here}
use Rattle.lb_threads_group.proofs.selecting.find_on.Goals as goal

pub returns : goal.returns
returns g c =
    copies_hold _
    (SelectsUnder g.R.KeyRule.gives (λ b ready a. Answers g.F.Fn c.args.accept.now b ready a) c.args.max_iterations
    g.S.BackendSelection.walks c.args.key.now c.args.port.now.group.now c.args.reader.now)
    (λ a is. selects_here (λ p. p.group.now) (λ v. v) (ReadyUnder g.R.KeyRule.gives)
    (λ b ready a. Answers g.F.Fn c.args.accept.now b ready a) c.args.max_iterations
    (g.S.BackendSelection.walks c.args.reader.now.members c.args.reader.now.config c.args.key.now)
    c.args.port.now c.args.reader.now a c.find_for.new.port is)
    c.find_for.result c.find_for.ensures
