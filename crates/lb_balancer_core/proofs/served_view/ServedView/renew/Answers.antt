-- Another membership comes with the selector that is built of it.
use Rattle.std.proofs.Common.{◌∙◌, Ok, Err, true, false, not, refl, sym, ap, subst}
use Rattle.std.specs.Prelude.{is_ok}
use Rattle.std.specs.Arc.{arc_value}
use Rattle.std.proofs.lemmas.Bool.{false≢true}
use Rattle.lb_select_base.specs.Memberships.{same_members}
use Rattle.lb_health_view.specs.RegistrySide.{after_settings, settings_of, with_membership}
use Rattle.lb_health_view.proofs.UpdateLemmas.{answered-alike, refused-alike}
use Rattle.lb_balancer_core.specs.ServedViews.{IsRenewed, ServedViewValue}
use Rattle.lb_balancer_core.proofs.LeastCauses.{free-of-cause, least-cause}
use Rattle.lb_balancer_core.proofs.Memberships.{if-ok, kept-members, new-members, on-ok}
use Rattle.lb_balancer_core.proofs.served_view.ServedView.renew.Goals as goal

pub invariant_of-self : goal.invariant_of-self
invariant_of-self g c =
    let p = c.self.invariant in
    let members = c.args.members.keys in
    let settings = settings_of c.args.settings.entries in
    let told = rw c.in-Ok-Some.field-0-is at (if-ok c.update.result _ _ c.in-Ok-Some.is c.update.ensures.called p.0 p.1) in
    let shown = on-ok c.update.result _ (ap is_ok c.in-Ok-Some.is) c.update.ensures.updated.some in (
      after_settings settings (with_membership members shown.0 p.0),
      shown.1 p.0 p.1,
      rw c.replace.ensures.after (c.requires.members ∙ sym (new-members settings members shown.0 p.0 told.0)),
    )

pub invariant_of-self-in-Ok-None : goal.invariant_of-self-in-Ok-None
invariant_of-self-in-Ok-None g c =
    let p = c.self.invariant in
    let members = c.args.members.keys in
    let settings = settings_of c.args.settings.entries in
    let same = rw c.in-Ok-None.field-0-is at (if-ok c.update.result _ _ c.in-Ok-None.is c.update.ensures.called p.0 p.1) in
    let shown = on-ok c.update.result _ (ap is_ok c.in-Ok-None.is) c.update.ensures.updated.some in (
      after_settings settings (with_membership members shown.0 p.0),
      shown.1 p.0 p.1,
      p.2 ∙ sym (kept-members settings members shown.0 p.0 same),
    )

pub returns-in-Ok-Some : goal.returns-in-Ok-Some
returns-in-Ok-Some g c =
    let p = c.self.invariant in
    let members = c.args.members.keys in
    let settings = settings_of c.args.settings.entries in
    let is = c.update.ensures.updated in
    let answer = c.update.result in
    let ok = ap is_ok c.in-Ok-Some.is in
    let told = rw c.in-Ok-Some.field-0-is at (if-ok answer _ _ c.in-Ok-Some.is c.update.ensures.called p.0 p.1) in
    let shown = on-ok answer _ ok is.some in
    let now : ServedViewValue g.row.S-Config.Denot = record {
      view = c.update.new.self;
      members = g.S.BackendSelection.members (arc_value c.replace.new.dest);
      config = g.S.BackendSelection.built_with (arc_value c.replace.new.dest);
    } in
    subst (λ (v : ServedViewValue g.row.S-Config.Denot).
    IsRenewed g.R.KeyRule.gives members settings v c.args.registry.now (Ok true) now c.update.new.registry) c.self.view_is
    (record {
      updated = answered-alike answer _ true c.in-Ok-Some.is is;
      taken = record {
        views = p.0;
        cells = shown.0;
        before = record { view = p.1; selector = p.2 };
        after = record {
          view = shown.1 p.0 p.1;
          selector = rw c.replace.ensures.after (c.requires.members ∙ sym (new-members settings members shown.0 p.0 told.0));
        };
      };
      renewed = sym (ap (λ ms. not (same_members members ms)) p.2 ∙ ap not told.0);
      members = λ other. rw c.replace.ensures.after c.requires.members;
      free = λ other. free-of-cause g.R.KeyRule.gives c.self.inside.view c.args.registry.now members answer ok
          (λ views after. (rw c.in-Ok-Some.field-0-is at (if-ok answer _ _ c.in-Ok-Some.is c.update.ensures.called views after)).0)
          is.refusals;
      members_err = tt;
      least = tt;
      config = rw c.replace.ensures.after
          (c.requires.config ∙ sym (ap (λ (v : ServedViewValue g.row.S-Config.Denot). v.config) c.self.view_is));
    })

pub returns-in-Ok-None : goal.returns-in-Ok-None
returns-in-Ok-None g c =
    let p = c.self.invariant in
    let members = c.args.members.keys in
    let settings = settings_of c.args.settings.entries in
    let is = c.update.ensures.updated in
    let answer = c.update.result in
    let ok = ap is_ok c.in-Ok-None.is in
    let same = rw c.in-Ok-None.field-0-is at (if-ok answer _ _ c.in-Ok-None.is c.update.ensures.called p.0 p.1) in
    let shown = on-ok answer _ ok is.some in
    let now : ServedViewValue g.row.S-Config.Denot = record {
      view = c.update.new.self;
      members = g.S.BackendSelection.members (arc_value c.self.inside.selector);
      config = g.S.BackendSelection.built_with (arc_value c.self.inside.selector);
    } in
    subst (λ (v : ServedViewValue g.row.S-Config.Denot).
    IsRenewed g.R.KeyRule.gives members settings v c.args.registry.now (Ok false) now c.update.new.registry) c.self.view_is
    (record {
      updated = answered-alike answer _ false c.in-Ok-None.is is;
      taken = record {
        views = p.0;
        cells = shown.0;
        before = record { view = p.1; selector = p.2 };
        after = record { view = shown.1 p.0 p.1; selector = p.2 ∙ sym (kept-members settings members shown.0 p.0 same) };
      };
      renewed = sym (ap (λ ms. not (same_members members ms)) p.2 ∙ ap not same);
      members = λ other. absurd (false≢true (sym other ∙ (ap (same_members members) p.2 ∙ same)));
      free = λ other. absurd (false≢true (sym other ∙ (ap (same_members members) p.2 ∙ same)));
      members_err = tt;
      least = tt;
      config = refl;
    })

pub returns-in-Err : goal.returns-in-Err
returns-in-Err g c =
    let is = c.update.ensures.updated in
    let answer = c.update.result in
    let now : ServedViewValue g.row.S-Config.Denot = record {
      view = c.update.new.self;
      members = g.S.BackendSelection.members (arc_value c.self.inside.selector);
      config = g.S.BackendSelection.built_with (arc_value c.self.inside.selector);
    } in
    subst (λ (v : ServedViewValue g.row.S-Config.Denot).
    IsRenewed g.R.KeyRule.gives c.args.members.keys (settings_of c.args.settings.entries) v c.args.registry.now
    (Err c.in-Err.refusal) now c.update.new.registry)
    c.self.view_is
    (record {
      updated = refused-alike answer c.in-Err.refusal c.in-Err.is is;
      taken = tt;
      renewed = tt;
      members = tt;
      free = tt;
      members_err = refl;
      least = least-cause g.R.KeyRule.gives c.self.inside.view c.args.registry.now c.args.members.keys c.in-Err.refusal answer c.in-Err.is
          is.same is.refusals;
      config = refl;
    })
