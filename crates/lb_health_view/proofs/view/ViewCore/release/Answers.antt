use Rattle.std.proofs.Common.{ap, ◌∙◌}
use Rattle.lb_health_view.specs.Snapshots.{ViewValue, living, flags_listed}
use Rattle.lb_health_view.proofs.ViewLemmas.{released}
use Rattle.lb_health_view.proofs.view.ViewCore.release.Goals as goal

pub returns-clause-view : goal.returns-clause-view
returns-clause-view g c = λ views h.
    released views c.args.self.now c.prune.new.self c.args.generation h
    (c.prune.ensures.generation ∙ ap (λ (v : ViewValue). v.generation) c.hold_less.ensures)
    (c.prune.ensures.snapshots ∙ ap (λ (v : ViewValue). living v.generation v.snapshots) c.hold_less.ensures)
    (c.prune.ensures.flags ∙ ap (λ (v : ViewValue). flags_listed c.prune.new.self.snapshots v.flags) c.hold_less.ensures)
