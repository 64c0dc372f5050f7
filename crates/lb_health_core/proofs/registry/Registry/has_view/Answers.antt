use Rattle.std.proofs.Common.{List, position, sym, ap, ◌∙◌}
use Rattle.lb_health_core.specs.declared.targets.View.{View}
use Rattle.lb_health_core.specs.RegistryEvents.{is_view, has_view}
use Rattle.lb_health_core.specs.Targets.{view_value}
use Rattle.lb_health_core.proofs.ChangeLemmas.{missing_view, found_view}
use Rattle.lb_health_core.proofs.StateLemmas.{seen}
use Rattle.lb_health_core.proofs.registry.Registry.has_view.Goals as goal

pub returns-in-Some : goal.returns-in-Some
returns-in-Some g c =
    λ key_of events r.
    let now = seen g.R.KeyRule.gives key_of events _ _ c.self.view_is r in
    let found = ap (λ (vs : List View). position (λ v. is_view c.args.id (view_value v)) vs) (sym c.deref.ensures.value)
    ∙ sym c.place_of.ensures ∙ c.in-Some.is in
    sym (ap (has_view c.args.id) (sym now.state.listed) ∙ found_view view_value c.args.id c.self.inside.views.items _ found)

pub returns-in-None : goal.returns-in-None
returns-in-None g c =
    λ key_of events r.
    let now = seen g.R.KeyRule.gives key_of events _ _ c.self.view_is r in
    let none = ap (λ (vs : List View). position (λ v. is_view c.args.id (view_value v)) vs) (sym c.deref.ensures.value)
    ∙ sym c.place_of.ensures ∙ c.in-None.is in
    sym (ap (has_view c.args.id) (sym now.state.listed) ∙ missing_view view_value c.args.id c.self.inside.views.items none)
