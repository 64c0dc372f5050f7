-- The view does not see it.
use Rattle.std.proofs.Common.{refl, length}
use Rattle.lb_rebuild_core.specs.SlotsCalls.{done_at}
use Rattle.lb_rebuild_core.specs.SlotsHistory.{TakenOut}
use Rattle.lb_rebuild_core.specs.GroupHistory.{slot_events}
use Rattle.lb_rebuild_core.proofs.Joins.{joined-still, still-done}
use Rattle.lb_rebuild_core.proofs.group.GroupCore.take_retired.Goals as goal

pub invariant_of-self : goal.invariant_of-self
invariant_of-self g c =
    let p = c.self.invariant in (
      p.0,
      (
        _,
        joined-still p.0 p.1.0 (done_at c.args.slot TakenOut c.take_retired.result) _ _ _ _ refl p.1.1
            (c.take_retired.ensures.stands p.0) (still-done (length p.0.configs) c.args.slot TakenOut c.take_retired.result p.1.0
            (λ b p. refl)),
      ),
    )

pub returns : goal.returns
returns g c =
    let told = c.take_retired.ensures in
    rw (← c.self.view_is) (record {
      answers = λ made e s. told.answers made (slot_events e) s.group;
      stands = λ made e s. joined-still made e (done_at c.args.slot TakenOut c.take_retired.result) _ _ _ _ refl s (told.stands made)
          (still-done (length made.configs) c.args.slot TakenOut c.take_retired.result e (λ b p. refl));
      site = record { group = told.site; id = refl; registry = refl };
      own = told.own;
    })
