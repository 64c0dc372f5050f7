-- What the group has for a backend of the generation, under its lock, it has at some state of it.
use Rattle.std.proofs.Common.{◌∙◌, ◌==◌, ap, refl, subst, sym}
use Rattle.lb_threads_group.specs.Found.{FlaggedAt}
use Rattle.lb_threads_group.proofs.Findings.{flagged-now}
use Rattle.lb_threads_group.proofs.found.Found.note_flag.Goals as goal

pub note-requires : goal.note-requires
note-requires g c =
    let b = c.args.backend.now in
    let newest = c.newest.result == c.self.inside.generation in
    let cell = c.in_ok-cell.cell in
    let enabled = c.in_ok-cell.is_enabled in
    let now = flagged-now c.args.self.now.site c.args.group.now c.self.inside.generation c.self.inside.generation c.newest.result b
    cell enabled c.requires c.in_ok-cell.ensures c.newest.ensures refl in
    subst (λ v. FlaggedAt v.site v.generation b cell enabled newest) (sym c.self.view_is)
    (subst (λ n. FlaggedAt c.args.self.now.site n b cell enabled newest)
    (sym c.self.invariant.0 ∙ ap (λ v. v.generation) c.self.view_is) now)
