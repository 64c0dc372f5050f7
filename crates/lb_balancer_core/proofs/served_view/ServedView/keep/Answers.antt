-- The membership stays, and with it the selector's.
use Rattle.std.proofs.Common.{◌≡◌, ◌∙◌, true, refl, sym, ap, subst}
use Rattle.lb_select_base.specs.Memberships.{same_members}
use Rattle.lb_health_core.specs.Registry.{IsRegistryAfter}
use Rattle.lb_health_view.specs.RegistrySide.{after_settings, registry_updated, settings_of, with_membership}
use Rattle.lb_health_view.specs.ViewEvents.{membership_after}
use Rattle.lb_health_view.specs.Views.{IsViewAfter}
use Rattle.lb_balancer_core.specs.ServedViews.{ServedViewValue, StandsBy}
use Rattle.lb_balancer_core.proofs.Memberships.{kept-members, on-ok}
use Rattle.lb_balancer_core.proofs.served_view.ServedView.keep.Goals as goal

pub invariant_of-self : goal.invariant_of-self
invariant_of-self g c =
    let p = c.self.invariant in
    let members = c.args.members.keys in
    let settings = settings_of c.args.settings.entries in
    let here = sym (ap (λ (v : ServedViewValue g.row.S-Config.Denot). v.members) c.self.view_is) ∙ p.2 in
    let same : same_members members (membership_after p.0) ≡ true = ap (same_members members) (sym here) ∙ c.requires in
    let shown = on-ok c.update.result _ (c.update.ensures.updated.same p.0 p.1 same) c.update.ensures.updated.some in (
      after_settings settings (with_membership members shown.0 p.0),
      shown.1 p.0 p.1,
      p.2 ∙ sym (kept-members settings members shown.0 p.0 same),
    )

pub returns-clause-registry : goal.returns-clause-registry
returns-clause-registry g c key_of events r =
    let p = c.self.invariant in
    let members = c.args.members.keys in
    let here = sym (ap (λ (v : ServedViewValue g.row.S-Config.Denot). v.members) c.self.view_is) ∙ p.2 in
    let same : same_members members (membership_after p.0) ≡ true = ap (same_members members) (sym here) ∙ c.requires in
    let kept : registry_updated key_of c.self.inside.view.id members p.0 events ≡ events = rw same refl in
    subst (λ es. IsRegistryAfter g.R.KeyRule.gives key_of es c.update.new.registry) kept
    (on-ok c.update.result _ (c.update.ensures.updated.same p.0 p.1 same) c.update.ensures.updated.registry key_of p.0 events p.1 r)

pub returns-clause-took : goal.returns-clause-took
returns-clause-took g c =
    let p = c.self.invariant in
    let members = c.args.members.keys in
    let here = sym (ap (λ (v : ServedViewValue g.row.S-Config.Denot). v.members) c.self.view_is) ∙ p.2 in
    let same : same_members members (membership_after p.0) ≡ true = ap (same_members members) (sym here) ∙ c.requires in
    let shown = on-ok c.update.result _ (c.update.ensures.updated.same p.0 p.1 same) c.update.ensures.updated.some in (
      shown.0,
      (λ views after.
          shown.1 views (subst (λ (v : ServedViewValue g.row.S-Config.Denot). IsViewAfter views v.view) (sym c.self.view_is) after)),
    )

pub returns-clause-taken : goal.returns-clause-taken
returns-clause-taken g c =
    let p = c.self.invariant in
    let members = c.args.members.keys in
    let settings = settings_of c.args.settings.entries in
    let here = sym (ap (λ (v : ServedViewValue g.row.S-Config.Denot). v.members) c.self.view_is) ∙ p.2 in
    let same : same_members members (membership_after p.0) ≡ true = ap (same_members members) (sym here) ∙ c.requires in
    let shown = on-ok c.update.result _ (c.update.ensures.updated.same p.0 p.1 same) c.update.ensures.updated.some in
    record {
      views = p.0;
      cells = shown.0;
      before = subst (λ (v : ServedViewValue g.row.S-Config.Denot). StandsBy p.0 v) c.self.view_is (record { view = p.1; selector = p.2 });
      after = record { view = shown.1 p.0 p.1; selector = p.2 ∙ sym (kept-members settings members shown.0 p.0 same) };
    }
