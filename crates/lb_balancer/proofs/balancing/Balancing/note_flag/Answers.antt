-- What is served is of the kept generation, and has this cell and flag for the backend.
use Rattle.std.proofs.Common.{◌∙◌, sym}
use Rattle.std.specs.Arc.{arc_value}
use Rattle.lb_balancer.proofs.Flags.{flags-noted}
use Rattle.lb_balancer.proofs.balancing.Balancing.note_flag.Goals as goal

pub note_flag-requires : goal.note_flag-requires
note_flag-requires g c =
    let n = (arc_value c.args.kept.now.shown).generation in
    flags-noted g.R.KeyRule.gives c.args.self.now n c.args.kept.now.ready c.args.backend.now c.in_ok-cell.cell c.in_ok-cell.is_enabled
    c.requires.kept.1 (
      c.args.serving.now.served,
      (
        c.requires.served,
        (
          λ views view. sym c.generation-generation.ensures ∙ sym c.if-generation.false ∙ c.generation.ensures views view,
          c.in_ok-cell.ensures,
        ),
      ),
    )
