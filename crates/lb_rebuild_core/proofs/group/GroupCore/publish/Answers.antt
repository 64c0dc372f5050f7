-- The view does not see it.
use Rattle.std.proofs.Common.{refl, length}
use Rattle.lb_rebuild_core.specs.SlotsCalls.{publish_events}
use Rattle.lb_rebuild_core.specs.GroupHistory.{slot_events}
use Rattle.lb_rebuild_core.proofs.Joins.{joined-still, still-published}
use Rattle.lb_rebuild_core.proofs.group.GroupCore.publish.Goals as goal

pub invariant_of-self : goal.invariant_of-self
invariant_of-self g c =
    let p = c.self.invariant in (
      p.0,
      (
        _,
        joined-still p.0 p.1.0 (publish_events c.args.built c.publish.result) _ _ _ _ refl p.1.1 (c.publish.ensures.stands p.0)
            (still-published (length p.0.configs) c.args.built c.publish.result p.1.0),
      ),
    )

pub returns : goal.returns
returns g c =
    let told = c.publish.ensures in
    rw (← c.self.view_is) (record {
      answers = λ made e s. told.answers made (slot_events e) s.group;
      stands = λ made e s. joined-still made e (publish_events c.args.built c.publish.result) _ _ _ _ refl s (told.stands made)
          (still-published (length made.configs) c.args.built c.publish.result e);
      site = record { group = told.site; id = refl; registry = refl };
    })
