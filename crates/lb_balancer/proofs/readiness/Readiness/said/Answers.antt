-- The words of a member and of its cell say it.
use Rattle.std.proofs.Common.{◌∙◌, subst}
use Rattle.lb_threads_core.specs.CellWords.{WasHealthy}
use Rattle.lb_balancer.specs.History.{JudgedIn}
use Rattle.lb_balancer.proofs.Flags.{judged-of}
use Rattle.lb_balancer.proofs.readiness.Readiness.said.Goals as goal

pub returns : goal.returns
returns g c =
    let gives = g.R.KeyRule.gives in
    let m = c.args.backend.now in
    let flagged = c.in_ok-flagged.flagged in
    let healthy = c.in_ok-healthy.healthy in
    let ready = c.ready_of.result in
    let words = c.self.inside.flags in
    let was = subst (λ start. WasHealthy gives start flagged.cell healthy) (c.deref.ensures ∙ c.self.invariant.1) c.in_ok-healthy.ensures in
    subst (λ v. JudgedIn gives v.balancer v.number m ready) c.self.view_is
    (judged-of gives words.balancer words.number m flagged.cell flagged.is_enabled healthy ready c.in_ok-flagged.ensures was
    c.ready_of.ensures)
