use Rattle.std.proofs.Common.{ap, sym, ◌∙◌, map}
use Rattle.std.specs.List.{list_any}
use Rattle.std.specs.Prelude.{◌==◌}
use Rattle.lb_health_view.specs.declared.snapshot.ViewSnapshot.{ViewSnapshot}
use Rattle.lb_health_view.specs.Snapshots.{snapshot_of}
use Rattle.lb_health_view.proofs.SnapshotLemmas.{lives-seen, lives-other}
use Rattle.lb_health_view.proofs.view.ViewCore.lives.Goals as goal

pub returns-else-self-generation : goal.returns-else-self-generation
returns-else-self-generation c =
    rw (← c.self.view_is) (c.is_among.ensures
    ∙ ap (λ ss. list_any (λ (s : ViewSnapshot). s.generation == c.args.generation) ss) c.as_slice.ensures.value
    ∙ lives-seen c.args.generation c.self.inside.earlier.items
    ∙ sym (lives-other c.args.generation (snapshot_of c.self.inside.current) (map snapshot_of c.self.inside.earlier.items)
    c.if-self-generation.false))
