-- The cell's word says what the registry has.
use Rattle.std.specs.Arc.{arc_value}
use Rattle.lb_balancer.proofs.Flags.{health-noted}
use Rattle.lb_balancer.proofs.Served.{of-registry}
use Rattle.lb_balancer.proofs.balancing.Balancing.note_member.Goals as goal

pub note_health-requires : goal.note_health-requires
note_health-requires g c =
    let n = (arc_value c.args.kept.now.shown).generation in
    health-noted g.R.KeyRule.gives c.args.self.now n c.args.kept.now.ready c.in-Some.cell c.cell_ready.result c.requires.kept.1 (
      c.take_registry-cells.result.value,
      (
        of-registry g.R.KeyRule.gives c.registry-registries.ensures c.self.view_is c.take_registry-cells.ensures.registry,
        c.cell_ready.ensures,
      ),
    )
