use Rattle.std.proofs.Common.{List, map, ap, ◌∙◌}
use Rattle.lb_health_core.specs.declared.targets.View.{View}
use Rattle.lb_health_core.specs.Fresh.{has_key}
use Rattle.lb_health_core.specs.Targets.{ViewValue, view_value, live}
use Rattle.lb_health_core.proofs.StateLemmas.{seen}
use Rattle.lb_health_core.proofs.registry.Registry.has_key.Goals as goal

pub returns : goal.returns
returns g c =
    λ key_of events r.
    let now = seen g.R.KeyRule.gives key_of events _ _ c.self.view_is r in
    let has = λ (vs : List ViewValue). has_key key_of (live vs) (key_of c.args.backend.now) in
    c.is_taken.ensures key_of now.rule ∙ ap (λ (vs : List View). has (map view_value vs)) c.deref.ensures.value ∙ ap has now.state.listed
