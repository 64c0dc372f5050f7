-- The snapshot of the job is released.
use Rattle.std.proofs.Common.{refl}
use Rattle.lb_rebuild_core.specs.GroupHistory.{slot_events}
use Rattle.lb_rebuild_core.specs.GroupStates.{views_of}
use Rattle.lb_rebuild_core.proofs.Joins.{failed-joined}
use Rattle.lb_rebuild_core.proofs.group.GroupCore.fail.Goals as goal

pub invariant_of-self-2 : goal.invariant_of-self-2
invariant_of-self-2 g c =
    let p = c.self.invariant in
    let s = p.1.1 in (
      p.0,
      (
        _,
        failed-joined p.0 p.1.0 c.args.job.slot c.args.now c.generation-generation.result c.args.job.members c.args.job.config _
            c.fail.new.self c.release.new.self s (rw (← c.self.view_is) at c.requires.config)
            (rw c.generation-generation.ensures (c.in-Ok.ensures.answers p.0 (slot_events p.1.0) s.group))
            (c.in-Ok.ensures.stands p.0 (slot_events p.1.0) s.group) (c.release.ensures.view (views_of p.0 p.1.0) s.view),
      ),
    )

pub returns : goal.returns
returns g c =
    let told = c.in-Ok.ensures in
    let config = rw (← c.self.view_is) at c.requires.config in
    rw (← c.self.view_is) (record {
      answers = λ made e s. told.answers made (slot_events e) s.group;
      stands = λ made e s. failed-joined made e c.args.job.slot c.args.now c.generation-generation.result c.args.job.members
          c.args.job.config _ c.fail.new.self c.release.new.self s config
          (rw c.generation-generation.ensures (told.answers made (slot_events e) s.group)) (told.stands made (slot_events e) s.group)
          (c.release.ensures.view (views_of made e) s.view);
      site = record { group = c.fail.ensures.site; id = c.release.ensures.id; registry = refl };
      registry = λ key_of events r made e s.
          rw c.generation-generation.ensures at (c.release.ensures.registry key_of (views_of made e) events s.view r);
      gate = told.gate;
      one_gate = told.one_gate;
      one_registry = c.release.ensures.one_registry;
    })
