-- The words are of the registry that contracts see.
use Rattle.std.proofs.Common.{◌∙◌, ap, subst, sym}
use Rattle.lb_threads_core.specs.CellWords.{WasHealthy}
use Rattle.lb_balancer.proofs.readiness.Readiness.note_health.Goals as goal

pub note-requires : goal.note-requires
note-requires g c =
    subst (λ start. WasHealthy g.R.KeyRule.gives start c.args.cell c.args.healthy)
    (sym (c.deref.ensures ∙ c.self.invariant.1 ∙ ap (λ v. v.balancer.registry) c.self.view_is)) c.requires
