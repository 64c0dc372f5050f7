-- The registry that the caller has says it.
use Rattle.std.proofs.Common.{◌∙◌, ap, subst, sym}
use Rattle.lb_threads_core.specs.CellWords.{WasHealthy}
use Rattle.lb_threads_core.proofs.registry.HealthRegistry.note_flip.Goals as goal

pub note-requires : goal.note-requires
note-requires g c =
    let start = c.self.invariant ∙ ap (λ h. h.start) c.self.view_is in
    subst (λ s. WasHealthy g.R.KeyRule.gives s c.args.cell c.cell_ready.result) (sym start)
    (c.args.registry.now, (c.requires, c.cell_ready.ensures))
