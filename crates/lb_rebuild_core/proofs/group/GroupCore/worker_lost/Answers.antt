-- The view does not see it.
use Rattle.std.proofs.Common.{refl, length}
use Rattle.lb_rebuild_core.specs.SlotsCalls.{done_at}
use Rattle.lb_rebuild_core.specs.SlotsHistory.{WorkerLost}
use Rattle.lb_rebuild_core.specs.GroupHistory.{slot_events}
use Rattle.lb_rebuild_core.proofs.Joins.{joined-still, still-done}
use Rattle.lb_rebuild_core.proofs.group.GroupCore.worker_lost.Goals as goal

pub invariant_of-self : goal.invariant_of-self
invariant_of-self g c =
    let p = c.self.invariant in (
      p.0,
      (
        _,
        joined-still p.0 p.1.0 (done_at c.args.slot WorkerLost c.worker_lost.result) _ _ _ _ refl p.1.1
            (c.worker_lost.ensures.stands p.0) (still-done (length p.0.configs) c.args.slot WorkerLost c.worker_lost.result p.1.0
            (λ b p. refl)),
      ),
    )

pub returns : goal.returns
returns g c =
    let told = c.worker_lost.ensures in
    rw (← c.self.view_is) (record {
      answers = λ made e s. told.answers made (slot_events e) s.group;
      stands = λ made e s. joined-still made e (done_at c.args.slot WorkerLost c.worker_lost.result) _ _ _ _ refl s (told.stands made)
          (still-done (length made.configs) c.args.slot WorkerLost c.worker_lost.result e (λ b p. refl));
      site = record { group = told.site; id = refl; registry = refl };
    })
