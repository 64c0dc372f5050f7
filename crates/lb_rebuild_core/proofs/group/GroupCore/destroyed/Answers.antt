-- The snapshot of what was destroyed is released.
use Rattle.std.proofs.Common.{refl, sym, subst, ℕ, Option}
use Rattle.lb_health_core.specs.Registry.{IsRegistryAfter}
use Rattle.lb_health_view.specs.RegistrySide.{registry_released}
use Rattle.lb_rebuild_core.specs.GroupHistory.{slot_events}
use Rattle.lb_rebuild_core.specs.GroupStates.{views_of}
use Rattle.lb_rebuild_core.proofs.Joins.{destroyed-joined, out-is}
use Rattle.lb_rebuild_core.proofs.group.GroupCore.destroyed.Goals as goal

pub invariant_of-self-2 : goal.invariant_of-self-2
invariant_of-self-2 g c =
    let p = c.self.invariant in
    let s = p.1.1 in (
      p.0,
      (
        _,
        destroyed-joined p.0 p.1.0 c.args.slot c.in-Some.generation _ c.destroyed.new.self c.release.new.self s
            (c.in-Some.ensures p.0 (slot_events p.1.0) s.group)
            (c.in-Ok.ensures.stands p.0 (slot_events p.1.0) s.group) (c.release.ensures.view (views_of p.0 p.1.0) s.view),
      ),
    )

pub returns : goal.returns
returns g c =
    let told = c.in-Ok.ensures in
    rw (← c.self.view_is) (record {
      answers = λ made e s. told.answers made (slot_events e) s.group;
      stands = λ made e s. destroyed-joined made e c.args.slot c.in-Some.generation _ c.destroyed.new.self c.release.new.self s
          (c.in-Some.ensures made (slot_events e) s.group) (told.stands made (slot_events e) s.group)
          (c.release.ensures.view (views_of made e) s.view);
      site = record { group = c.destroyed.ensures.site; id = c.release.ensures.id; registry = refl };
      registry = λ key_of events r made e s.
          let is = out-is made c.args.slot c.in-Some.generation (slot_events e)
          (sym {A = Option ℕ} (c.in-Some.ensures made (slot_events e) s.group)) in
          subst (λ n. IsRegistryAfter g.R.KeyRule.gives key_of (registry_released c.self.inside.view.id n (views_of made e) events)
          c.release.new.registry) (sym is.1) (c.release.ensures.registry key_of (views_of made e) events s.view r);
      gate = told.gate;
      one_gate = told.one_gate;
      one_registry = c.release.ensures.one_registry;
    })
