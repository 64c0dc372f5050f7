-- The words of a backend and of its cell say it.
use Rattle.std.proofs.Common.{◌∙◌, subst}
use Rattle.lb_threads_core.specs.CellWords.{WasHealthy}
use Rattle.lb_threads_group.specs.Found.{FoundAt}
use Rattle.lb_threads_group.proofs.Findings.{found-as}
use Rattle.lb_threads_group.proofs.found.Found.said.Goals as goal

pub returns : goal.returns
returns g c =
    let gives = g.R.KeyRule.gives in
    let b = c.args.backend.now in
    let flagged = c.in_ok-flagged.flagged in
    let found = c.finding_of.result in
    let words = c.self.inside.flags in
    let was = subst (λ start. WasHealthy gives start flagged.cell c.in_ok-healthy.healthy) (c.deref.ensures ∙ c.self.invariant.1)
    c.in_ok-healthy.ensures in
    subst (λ v. FoundAt gives v.site v.generation b found.ready found.is_newest) c.self.view_is
    (found-as gives words.site.value words.generation b flagged.cell flagged.is_enabled flagged.is_newest c.in_ok-healthy.healthy
    found.ready found.is_newest c.in_ok-flagged.ensures was c.finding_of.ensures.0 c.finding_of.ensures.1)
