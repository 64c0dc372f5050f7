-- View and selector change as one.
use Rattle.std.proofs.Common.{◌≡◌, ◌⊎◌, ◌∙◌, refl, ap, sym, subst, rules, unwrap_or, Some, None, true, false, Err}
use Rattle.std.specs.Prelude.{is_ok}
use Rattle.lb_select_base.specs.Memberships.{same_members}
use Rattle.lb_select_base.specs.declared.refusal.Refusal.TheVariants.{OutOfMemory}
use Rattle.lb_health_core.specs.Registry.{IsRegistryAfter}
use Rattle.lb_health_core.specs.RegistryEvents.{shown_cells}
use Rattle.lb_health_view.specs.RegistrySide.{registry_updated, settings_of}
use Rattle.lb_balancer_core.specs.Balancer.{ServedValue, Stands, members_now, update_cause, updated, view_events}
use Rattle.lb_balancer_core.proofs.Balancing.{stands-same, stands-other, refused-build, refused-renewal, no-cause}
use Rattle.lb_balancer_core.proofs.Memberships.{if-err, on-err, on-ok}
use Rattle.lb_balancer_core.proofs.served.Served.update.Goals as goal

pub invariant_of-self : goal.invariant_of-self
invariant_of-self g c =
    let p = c.self.invariant in
    let e = p.1.0 in
    let members = c.args.members.keys in
    let same = ap (same_members members) (sym p.1.1.members) ∙ (sym c.is_membership.ensures ∙ c.if-is_membership.true) in
    let took = c.keep.ensures.took in (
      c.keep.ensures.config ∙ p.0,
      (
        _,
        stands-same e members (settings_of c.args.settings.entries) took.0 c.keep.new.self.view (took.1 (view_events e) p.1.1.view) _ _ _
            same (c.keep.ensures.members ∙ p.1.1.members) p.1.1.tickets,
      ),
    )

pub returns-then-is_membership-clause-updated : goal.returns-then-is_membership-clause-updated
returns-then-is_membership-clause-updated g c key_of events r e s =
    let here = subst (λ (v : ServedValue g.row.S-Config.Denot g.row.G.Denot). Stands e v) (sym c.self.view_is) s in
    let id = ap (λ (v : ServedValue g.row.S-Config.Denot g.row.G.Denot). v.view.id) c.self.view_is in
    let members = c.args.members.keys in
    let settings = settings_of c.args.settings.entries in
    let same : same_members members (members_now e) ≡ true = ap (same_members members) (sym here.members)
    ∙ (sym c.is_membership.ensures ∙ c.if-is_membership.true) in
    let after = c.keep.ensures.updated key_of (view_events e) events here.view r in
    let now : ServedValue g.row.S-Config.Denot g.row.G.Denot = record {
      view = c.keep.new.self.view;
      config = unwrap_or c.self.inside.config g.S.BackendSelection.default_config;
      members = c.keep.new.self.members;
      words = c.self.inside.words;
    } in
    let stands = stands-same e members settings (shown_cells key_of c.self.inside.served.view.id members events) c.keep.new.self.view after
    now.config now.members now.words same (c.keep.ensures.members ∙ here.members) here.tickets in
    let kept : registry_updated key_of c.self.inside.served.view.id members (view_events e) events ≡ events = rw same refl in (
      rw same refl,
      (
        subst (λ i. Stands {C = g.row.S-Config.Denot} {G = g.row.G.Denot} (updated key_of i members settings events e) now) id stands,
        subst (λ i. IsRegistryAfter g.R.KeyRule.gives key_of (registry_updated key_of i members (view_events e) events)
            c.keep.new.registry) id
            (subst (λ es. IsRegistryAfter g.R.KeyRule.gives key_of es c.keep.new.registry) (sym kept)
            (c.keep.ensures.registry key_of events r)),
      ),
    )

pub returns-in_err-selector-clause-updated : goal.returns-in_err-selector-clause-updated
returns-in_err-selector-clause-updated g c key_of events r e s =
    let here = subst (λ (v : ServedValue g.row.S-Config.Denot g.row.G.Denot). Stands e v) (sym c.self.view_is) s in
    let members = c.args.members.keys in
    let refusal = c.in_err-selector.field-0.0 in
    let same : same_members members (members_now e) ≡ false = ap (same_members members) (sym here.members)
    ∙ (sym c.is_membership.ensures ∙ c.if-is_membership.false) in
    let is : c.from_residual.result ≡ Err refusal = search rules in
    rw is (subst (λ (v : ServedValue g.row.S-Config.Denot g.row.G.Denot).
    (update_cause (g.S.BackendSelection.refusal members v.config) key_of v.view.id members events e ≡ Some refusal)
    ⊎ ((update_cause (g.S.BackendSelection.refusal members v.config) key_of v.view.id members events e ≡ None) × (refusal ≡ OutOfMemory)))
    c.self.view_is
    (refused-build (g.S.BackendSelection.refusal members (unwrap_or c.self.inside.config g.S.BackendSelection.default_config)) key_of
    c.self.inside.served.view.id members events e refusal same
    (c.in_err-selector.ensures.refused key_of (view_events e) events here.view r)))

pub renew-unserved-requires-clause-config : goal.renew-unserved-requires-clause-config
renew-unserved-requires-clause-config g c = c.in_ok-selector.ensures.made.2 ∙ sym c.self.invariant.0

pub invariant_of-self-in-Ok : goal.invariant_of-self-in-Ok
invariant_of-self-in-Ok g c =
    let p = c.self.invariant in
    let e = p.1.0 in
    let members = c.args.members.keys in
    let is = c.renew-unserved.ensures in
    let ok = ap is_ok c.in-Ok.is in
    let answer = c.renew-unserved.result.1 in
    let old = sym c.is_membership.ensures ∙ c.if-is_membership.false in
    let same = ap (same_members members) (sym p.1.1.members) ∙ old in
    let took = on-ok answer _ ok is.updated.some in (
      is.config ∙ p.0,
      (
        _,
        stands-other e members (settings_of c.args.settings.entries) took.0 c.renew-unserved.new.self.view
            (took.1 (view_events e) p.1.1.view) _ _ _ same (on-ok answer _ ok is.members old) refl,
      ),
    )

pub invariant_of-self-in-Err : goal.invariant_of-self-in-Err
invariant_of-self-in-Err g c =
    let p = c.self.invariant in
    let e = p.1.0 in
    let is = c.renew-unserved.ensures in
    let kept = on-err c.renew-unserved.result.1 _ _ c.in-Err.is is.updated.refusals.view_err in
    let members = on-err c.renew-unserved.result.1 _ _ c.in-Err.is is.members_err in (
      is.config ∙ p.0,
      (e, record { view = kept (view_events e) p.1.1.view; members = members ∙ p.1.1.members; tickets = p.1.1.tickets }),
    )

pub returns-in-Ok-clause-updated : goal.returns-in-Ok-clause-updated
returns-in-Ok-clause-updated g c key_of events r e s =
    let here = subst (λ (v : ServedValue g.row.S-Config.Denot g.row.G.Denot). Stands e v) (sym c.self.view_is) s in
    let id = ap (λ (v : ServedValue g.row.S-Config.Denot g.row.G.Denot). v.view.id) c.self.view_is in
    let members = c.args.members.keys in
    let settings = settings_of c.args.settings.entries in
    let is = c.renew-unserved.ensures in
    let ok = ap is_ok c.in-Ok.is in
    let answer = c.renew-unserved.result.1 in
    let old = sym c.is_membership.ensures ∙ c.if-is_membership.false in
    let same : same_members members (members_now e) ≡ false = ap (same_members members) (sym here.members) ∙ old in
    let now : ServedValue g.row.S-Config.Denot g.row.G.Denot = record {
      view = c.renew-unserved.new.self.view;
      config = unwrap_or c.self.inside.config g.S.BackendSelection.default_config;
      members = c.renew-unserved.new.self.members;
      words = record { tickets = 0; generator = c.self.inside.words.generator; loads = c.self.inside.words.loads };
    } in
    let stands = stands-other e members settings (shown_cells key_of c.self.inside.served.view.id members events)
    c.renew-unserved.new.self.view (on-ok answer _ ok is.updated.view key_of (view_events e) events here.view r) now.config now.members
    now.words same (on-ok answer _ ok is.members old) refl in
    let free = no-cause (g.S.BackendSelection.refusal members (unwrap_or c.self.inside.config g.S.BackendSelection.default_config)) key_of
    c.self.inside.served.view.id members events e same c.in_ok-selector.ensures.made.0
    (on-ok answer _ ok is.free old key_of (view_events e) events here.view r) in (
      subst (λ (v : ServedValue g.row.S-Config.Denot g.row.G.Denot). update_cause (g.S.BackendSelection.refusal members v.config) key_of
          v.view.id members events e ≡ None) c.self.view_is free,
      (
        subst (λ i. Stands {C = g.row.S-Config.Denot} {G = g.row.G.Denot} (updated key_of i members settings events e) now) id stands,
        subst (λ i. IsRegistryAfter g.R.KeyRule.gives key_of (registry_updated key_of i members (view_events e) events)
            c.renew-unserved.new.registry) id
            (on-ok answer _ ok is.updated.registry key_of (view_events e) events here.view r),
      ),
    )

pub returns-in-Err-clause-updated : goal.returns-in-Err-clause-updated
returns-in-Err-clause-updated g c key_of events r e s =
    let here = subst (λ (v : ServedValue g.row.S-Config.Denot g.row.G.Denot). Stands e v) (sym c.self.view_is) s in
    let members = c.args.members.keys in
    let refusal = c.in-Err.refusal in
    let least = if-err c.renew-unserved.result.1 refusal _ c.in-Err.is c.renew-unserved.ensures.least in
    let same : same_members members (members_now e) ≡ false = ap (same_members members) (sym here.members)
    ∙ (sym c.is_membership.ensures ∙ c.if-is_membership.false) in
    subst (λ (v : ServedValue g.row.S-Config.Denot g.row.G.Denot).
    (update_cause (g.S.BackendSelection.refusal members v.config) key_of v.view.id members events e ≡ Some refusal)
    ⊎ ((update_cause (g.S.BackendSelection.refusal members v.config) key_of v.view.id members events e ≡ None) × (refusal ≡ OutOfMemory)))
    c.self.view_is
    (refused-renewal (g.S.BackendSelection.refusal members (unwrap_or c.self.inside.config g.S.BackendSelection.default_config)) key_of
    c.self.inside.served.view.id members events e refusal same c.in_ok-selector.ensures.made.0
    (least key_of (view_events e) events here.view r))

pub returns-then-is_membership-clause-stays : goal.returns-then-is_membership-clause-stays
returns-then-is_membership-clause-stays g c = record {
  err = tt;
  registry_err = tt;
  words = (
    ap (λ (v : ServedValue g.row.S-Config.Denot g.row.G.Denot). v.words.generator) c.self.view_is,
    ap (λ (v : ServedValue g.row.S-Config.Denot g.row.G.Denot). v.words.loads) c.self.view_is,
  );
  id = c.keep.ensures.id ∙ ap (λ (v : ServedValue g.row.S-Config.Denot g.row.G.Denot). v.view.id) c.self.view_is;
  config = ap (λ (v : ServedValue g.row.S-Config.Denot g.row.G.Denot). v.config) c.self.view_is;
  one_registry = c.keep.ensures.one_registry;
}

pub returns-in_err-selector-clause-stays : goal.returns-in_err-selector-clause-stays
returns-in_err-selector-clause-stays g c = record {
  err = search rules;
  registry_err = search rules;
  words = search rules;
  id = search rules;
  config = search rules;
  one_registry = search rules;
}

pub returns-in-Ok-clause-stays : goal.returns-in-Ok-clause-stays
returns-in-Ok-clause-stays g c = record {
  err = tt;
  registry_err = tt;
  words = (
    ap (λ (v : ServedValue g.row.S-Config.Denot g.row.G.Denot). v.words.generator) c.self.view_is,
    ap (λ (v : ServedValue g.row.S-Config.Denot g.row.G.Denot). v.words.loads) c.self.view_is,
  );
  id = c.renew-unserved.ensures.updated.refusals.id
      ∙ ap (λ (v : ServedValue g.row.S-Config.Denot g.row.G.Denot). v.view.id) c.self.view_is;
  config = ap (λ (v : ServedValue g.row.S-Config.Denot g.row.G.Denot). v.config) c.self.view_is;
  one_registry = c.renew-unserved.ensures.updated.refusals.one_registry;
}

pub returns-in-Err-clause-stays : goal.returns-in-Err-clause-stays
returns-in-Err-clause-stays g c =
    let is = c.renew-unserved.ensures in
    let answer = c.renew-unserved.result.1 in
    let kept = on-err answer _ _ c.in-Err.is is.updated.refusals.view_err in
    let members = on-err answer _ _ c.in-Err.is is.members_err in
    record {
      err = λ e s. let here = subst (λ (v : ServedValue g.row.S-Config.Denot g.row.G.Denot). Stands e v) (sym c.self.view_is) s in
          record { view = kept (view_events e) here.view; members = members ∙ here.members; tickets = here.tickets };
      registry_err = on-err answer _ _ c.in-Err.is is.updated.refusals.registry_err;
      words = (
        ap (λ (v : ServedValue g.row.S-Config.Denot g.row.G.Denot). v.words.generator) c.self.view_is,
        ap (λ (v : ServedValue g.row.S-Config.Denot g.row.G.Denot). v.words.loads) c.self.view_is,
      );
      id = is.updated.refusals.id ∙ ap (λ (v : ServedValue g.row.S-Config.Denot g.row.G.Denot). v.view.id) c.self.view_is;
      config = ap (λ (v : ServedValue g.row.S-Config.Denot g.row.G.Denot). v.config) c.self.view_is;
      one_registry = is.updated.refusals.one_registry;
    }
