-- It is judged by what is served and the registry as they are, and its words say so.
use Rattle.std.proofs.Common.{◌∙◌, sym}
use Rattle.std.specs.Arc.{arc_value}
use Rattle.lb_balancer.proofs.Flags.{health-noted}
use Rattle.lb_balancer.proofs.Served.{known, of-registry}
use Rattle.lb_balancer.proofs.balancing.Balancing.ask.Goals as goal

pub note_health-requires : goal.note_health-requires
note_health-requires g c =
    let n = (arc_value c.args.kept.now.shown).generation in
    health-noted g.R.KeyRule.gives c.args.self.now n c.args.kept.now.ready c.in-Some.cell c.cell_ready.result c.requires.1 (
      c.take_registry-cells.result.value,
      (
        of-registry g.R.KeyRule.gives c.registry-registries.ensures c.self.view_is c.take_registry-cells.ensures.registry,
        c.cell_ready.ensures,
      ),
    )

pub note_flag-requires-clause-served : goal.note_flag-requires-clause-served
note_flag-requires-clause-served g c = known (c.self.invariant.0 ∙ c.self.view_is) c.take-held.ensures.fact

pub returns : goal.returns
returns g c = (
  c.take-held.result.value.served,
  (
    known (c.self.invariant.0 ∙ c.self.view_is) c.take-held.ensures.fact,
    (
      λ views view. sym c.generation-generation.ensures ∙ sym c.if-generation.false ∙ c.generation.ensures views view,
      (
        c.take_registry-cells.result.value,
        (
          of-registry g.R.KeyRule.gives c.registry-registries.ensures c.self.view_is c.take_registry-cells.ensures.registry,
          c.ready-ready.ensures,
        ),
      ),
    ),
  ),
)
