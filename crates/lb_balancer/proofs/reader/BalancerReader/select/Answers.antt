-- What is accepted is what is ready.
use Rattle.lb_balancer.specs.Selections.{IsReadyIn}
use Rattle.lb_balancer.proofs.Judged.{of-told}
use Rattle.lb_balancer_core.proofs.Memberships.{on-ok-more}
use Rattle.lb_balancer.proofs.reader.BalancerReader.select.Goals as goal

pub returns-clause-answers : goal.returns-clause-answers
returns-clause-answers g c =
    let r = c.select_with.result in
    let seen = c.select_with.new.self.seen in
    let walks = g.S.BackendSelection.walks seen.members seen.config c.args.key.now in
    on-ok-more r _ _ c.select_with.ensures.answers
    (λ found. of-told (IsReadyIn g.R.KeyRule.gives c.args.self.now.balancing seen) c.args.max_iterations walks r found
    (λ p told a is. is.met))
