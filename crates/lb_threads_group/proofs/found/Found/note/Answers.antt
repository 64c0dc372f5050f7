-- The health of the cell is that of the registry under its lock, of which the words are.
use Rattle.std.proofs.Common.{◌∙◌, ap, subst, sym}
use Rattle.lb_threads_core.specs.CellWords.{WasHealthy}
use Rattle.lb_threads_group.proofs.found.Found.note.Goals as goal

pub note-requires : goal.note-requires
note-requires g c =
    subst (λ start. WasHealthy g.R.KeyRule.gives start c.in-Some.cell c.cell_ready.result)
    (sym (c.deref.ensures ∙ c.self.invariant.1 ∙ ap (λ v. v.site.registry) c.self.view_is))
    (c.args.registry.now, (c.requires.registry, c.cell_ready.ensures))
