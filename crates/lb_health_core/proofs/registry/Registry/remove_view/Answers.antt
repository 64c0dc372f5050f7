use Rattle.std.proofs.Common.{List, position, refl, sym, ap, subst, ◌∙◌}
use Rattle.lb_health_core.specs.declared.targets.View.{View}
use Rattle.lb_health_core.specs.Registry.{RegistryValue, IsRegistryAfter}
use Rattle.lb_health_core.specs.RegistryEvents.{is_view, at_view, with_mark}
use Rattle.lb_health_core.specs.Targets.{view_value}
use Rattle.lb_health_core.proofs.ChangeLemmas.{at_place, at_nowhere, missing_view}
use Rattle.lb_health_core.proofs.StateLemmas.{at_found}
use Rattle.lb_health_core.proofs.registry.Registry.remove_view.Goals as goal

pub returns-in-Some-clause-after : goal.returns-in-Some-clause-after
returns-in-Some-clause-after g c =
    λ key_of events r.
    let After : RegistryValue g.row.R.Denot → Type 0 = λ v. IsRegistryAfter g.R.KeyRule.gives key_of events v in
    let now = subst After (sym c.self.view_is) r in
    let found = ap (λ (vs : List View). position (λ v. is_view c.args.id (view_value v)) vs) (sym c.deref.ensures.value)
    ∙ sym c.place_of.ensures ∙ c.in-Some.is in
    record {
      rule = now.rule;
      registered = now.registered;
      state = record {
        sets = now.state.sets;
        fits = now.state.fits;
        listed =
            at_place view_value c.args.id with_mark c.self.inside.views.items c.in-Some.place c.index_mut.result.now _ found
            (at_found (λ (v : View). is_view c.args.id (view_value v)) c.self.inside.views.items c.in-Some.place c.index_mut.result.now
            found c.index_mut.ensures.value) refl
            ∙ ap (at_view c.args.id with_mark) now.state.listed;
        cells = now.state.cells;
        pruned = now.state.pruned;
      };
    }

pub returns-in_default-clause-after : goal.returns-in_default-clause-after
returns-in_default-clause-after g c =
    λ key_of events r.
    let After : RegistryValue g.row.R.Denot → Type 0 = λ v. IsRegistryAfter g.R.KeyRule.gives key_of events v in
    let now = subst After (sym c.self.view_is) r in
    let none = ap (λ (vs : List View). position (λ v. is_view c.args.id (view_value v)) vs) (sym c.deref.ensures.value)
    ∙ sym c.place_of.ensures ∙ c.in_default.is in
    let stays = sym (ap (at_view c.args.id with_mark) (sym now.state.listed)
    ∙ at_nowhere c.args.id with_mark _ (missing_view view_value c.args.id c.self.inside.views.items none) ∙ now.state.listed) in
    record {
      rule = r.rule;
      registered = r.registered;
      state = record {
        sets = r.state.sets;
        fits = r.state.fits;
        listed = r.state.listed ∙ stays;
        cells = r.state.cells;
        pruned = r.state.pruned;
      };
    }
