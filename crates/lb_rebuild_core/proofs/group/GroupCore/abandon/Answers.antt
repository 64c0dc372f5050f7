-- The view does not see it.
use Rattle.std.proofs.Common.{refl, length}
use Rattle.lb_rebuild_core.specs.SlotsCalls.{abandon_events}
use Rattle.lb_rebuild_core.specs.GroupHistory.{slot_events}
use Rattle.lb_rebuild_core.proofs.Joins.{joined-still, still-abandoned}
use Rattle.lb_rebuild_core.proofs.group.GroupCore.abandon.Goals as goal

pub invariant_of-self : goal.invariant_of-self
invariant_of-self g c =
    let p = c.self.invariant in (
      p.0,
      (
        _,
        joined-still p.0 p.1.0 (abandon_events c.args.built c.abandon.result) _ _ _ _ refl p.1.1 (c.abandon.ensures.stands p.0)
            (still-abandoned (length p.0.configs) c.args.built c.abandon.result p.1.0),
      ),
    )

pub returns : goal.returns
returns g c =
    let told = c.abandon.ensures in
    rw (← c.self.view_is) (record {
      answers = λ made e s. told.answers made (slot_events e) s.group;
      stands = λ made e s. joined-still made e (abandon_events c.args.built c.abandon.result) _ _ _ _ refl s (told.stands made)
          (still-abandoned (length made.configs) c.args.built c.abandon.result e);
      site = record { group = told.site; id = refl; registry = refl };
    })
