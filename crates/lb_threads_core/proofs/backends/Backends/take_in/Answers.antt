-- The registry has another membership of the view, or is as before; and so is the view.
use Rattle.std.proofs.Common.{◌∙◌, refl, rules}
use Rattle.lb_health_view.specs.RegistrySide.{after_settings, settings_of, with_membership}
use Rattle.lb_health_view.proofs.UpdateLemmas.{answered-alike, refused-alike}
use Rattle.lb_threads_core.proofs.Histories.{at_site, later}
use Rattle.lb_threads_core.proofs.Memberships.{changed-is, founded-after, is-other, new-members}
use Rattle.lb_threads_core.proofs.Updates.{taken-later}
use Rattle.lb_threads_core.proofs.backends.Backends.take_in.Goals as goal

pub put-requires-clause-registry : goal.put-requires-clause-registry
put-requires-clause-registry g c =
    let is = c.update-told.ensures.updated in
    later c.take-cells.ensures.registry (taken-later c.update-told.result c.args.view.now c.args.members.keys c.requires.0 is.registry
    is.refusals.registry_err)

pub returns-in-Ok-clause-state : goal.returns-in-Ok-clause-state
returns-in-Ok-clause-state g c =
    let is = c.update-told.ensures.updated in (
      founded-after c.update-told.result (settings_of c.args.settings.entries) c.args.members.keys c.requires.0 is.some
          is.refusals.view_err,
      is.refusals.id ∙ c.requires.1,
    )

pub returns-in-Ok-clause-taken : goal.returns-in-Ok-clause-taken
returns-in-Ok-clause-taken g c =
    let is = c.update-told.ensures.updated in
    let told = c.in-Ok.ensures.called in (
      c.take-cells.result.value,
      (
        c.update-told.new.registry,
        (
          at_site (search rules) c.take-cells.ensures.registry,
          (
            taken-later c.update-told.result c.args.view.now c.args.members.keys c.requires.0 is.registry
                is.refusals.registry_err,
            record {
              updated = answered-alike _ _ _ refl c.in-Ok.ensures.updated;
              changed = λ views after. changed-is _ c.in-Ok.changed c.is_some.result _ c.is_some.ensures (told views after);
            },
          ),
        ),
      ),
    )

pub returns-in-Ok-clause-newest : goal.returns-in-Ok-clause-newest
returns-in-Ok-clause-newest g c changed =
    let p = c.requires.0 in
    let some = c.in-Ok.ensures.updated.some in
    let members = c.args.members.keys in
    let settings = settings_of c.args.settings.entries in
    let is = changed-is _ c.in-Ok.changed c.is_some.result _ c.is_some.ensures (c.in-Ok.ensures.called p.0 p.1) in (
      after_settings settings (with_membership members some.0 p.0),
      some.1 p.0 p.1,
      new-members settings members some.0 p.0 (is-other c.is_some.result _ is changed),
    )

pub returns-in-Err-clause-taken : goal.returns-in-Err-clause-taken
returns-in-Err-clause-taken g c =
    let is = c.update-told.ensures.updated in (
      c.take-cells.result.value,
      (
        c.update-told.new.registry,
        (
          at_site (search rules) c.take-cells.ensures.registry,
          (
            taken-later c.update-told.result c.args.view.now c.args.members.keys c.requires.0 is.registry
                is.refusals.registry_err,
            record {
              updated = refused-alike _ _ refl c.in-Err.ensures.updated;
              changed = tt;
            },
          ),
        ),
      ),
    )
