use Rattle.lb_health_core.specs.Table.{table_value}
use Rattle.lb_health_core.proofs.StateLemmas.{seen, lacks_told}
use Rattle.lb_health_core.proofs.registry.Registry.lacks_numbers.Goals as goal

pub returns : goal.returns
returns g c =
    λ key_of events r id has.
    let now = seen g.R.KeyRule.gives key_of events _ _ c.self.view_is r in
    lacks_told key_of events id c.args.members.now.keys c.self.inside.views.items _ (table_value c.self.inside.table) _ now.state
    c.lacks_numbers.ensures.ordered has
    c.deref.ensures.value (c.lacks_numbers.ensures.lacks key_of id now.rule)
