-- What is accepted is what is ready.
use Rattle.lb_balancer.specs.Selections.{IsReadyIn}
use Rattle.lb_balancer.proofs.Judged.{of-told}
use Rattle.lb_balancer_core.proofs.Memberships.{on-ok-more}
use Rattle.lb_balancer.proofs.load_balancer.LoadBalancer.select.Goals as goal

pub returns-clause-answers : goal.returns-clause-answers
returns-clause-answers g c =
    let r = c.select_with.result in
    let walks = g.S.BackendSelection.walks in
    on-ok-more r _ _ c.select_with.ensures.answers (λ found. (
      found.0,
      found.1,
      of-told (IsReadyIn g.R.KeyRule.gives c.args.self.now.shared found.0) c.args.max_iterations
          (walks found.0.members found.0.config c.args.key.now) r found.2 (λ p told a is. is.met),
    ))
