-- The view does not see it.
use Rattle.std.proofs.Common.{refl}
use Rattle.lb_rebuild_core.specs.GroupHistory.{slot_events}
use Rattle.lb_rebuild_core.proofs.Joins.{joined-ticket}
use Rattle.lb_rebuild_core.proofs.group.GroupCore.ticket.Goals as goal

pub invariant_of-self : goal.invariant_of-self
invariant_of-self g c =
    let p = c.self.invariant in (
      p.0,
      (
        _,
        joined-ticket p.0 p.1.0 c.args.reader.now.slot c.args.reader.now.generation c.ticket.result _ _ _ _ refl p.1.1
            (c.ticket.ensures.stands p.0),
      ),
    )

pub returns : goal.returns
returns g c =
    let told = c.ticket.ensures in
    rw (← c.self.view_is) (record {
      answers = λ made e s. told.answers made (slot_events e) s.group;
      stands = λ made e s. joined-ticket made e c.args.reader.now.slot c.args.reader.now.generation c.ticket.result _ _ _ _ refl s
          (told.stands made);
      site = record { group = told.site; id = refl; registry = refl };
    })
