-- The selection is one in what was seen.
use Rattle.std.proofs.Common.{subst}
use Rattle.lb_rebuild_core.specs.GroupCalls.{AcceptsBy}
use Rattle.lb_balancer.specs.History.{BalancerValue}
use Rattle.lb_balancer.specs.Selections.{ReaderValue, SelectsFrom}
use Rattle.lb_balancer.specs.Shown.{ShownValue}
use Rattle.lb_balancer_core.proofs.Memberships.{if-answered}
use Rattle.lb_balancer.proofs.reader.BalancerReader.select_with.Goals as goal

pub returns-clause-answers : goal.returns-clause-answers
returns-clause-answers g c =
    let Known = BalancerValue g.row.D.Denot g.row.S-Config.Denot g.row.R.Denot in
    let Reader = ReaderValue g.row.D.Denot g.row.S-Config.Denot g.row.R.Denot in
    let Selects : Known → ShownValue g.row.S-Config.Denot → Type 0 = λ b s. SelectsFrom g.R.KeyRule.gives b
    (AcceptsBy g.F.Fn c.args.accept.now) c.args.max_iterations g.S.BackendSelection.walks c.args.key.now s c.select_kept.result in
    let seen = subst (λ (r : Reader). Selects r.balancing r.seen) c.self.view_is c.select_kept.ensures.answers in
    if-answered c.select_kept.result _ (subst (λ (b : Known). Selects b c.look.new.self.seen) c.in_ok-look.ensures.same seen)
