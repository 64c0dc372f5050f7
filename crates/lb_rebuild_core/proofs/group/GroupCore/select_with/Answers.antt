-- The view does not see it; each backend is judged in the generation that the slot serves.
use Rattle.std.proofs.Common.{◌≡◌, ◌∙◌, refl, Some, slice_get}
use Rattle.lb_select_base.specs.Loads.{load_in}
use Rattle.lb_rebuild_core.specs.SlotsCalls.{select_events}
use Rattle.lb_rebuild_core.proofs.Selecting.{asked-in-more}
use Rattle.lb_rebuild_core.specs.GroupHistory.{slot_events}
use Rattle.lb_rebuild_core.specs.GroupCalls.{served_at, Judges, AcceptsBy}
use Rattle.lb_rebuild_core.proofs.Judging.{number-there, accepts-served}
use Rattle.lb_rebuild_core.proofs.Joins.{joined-still, still-selected}
use Rattle.lb_rebuild_core.proofs.group.GroupCore.select_with.Goals as goal

pub invariant_of-self : goal.invariant_of-self
invariant_of-self g c =
    let p = c.self.invariant in (
      p.0,
      (
        _,
        joined-still p.0 p.1.0 (select_events p.0 c.args.slot c.select_with.result) _ _ _ _ refl p.1.1
            (c.select_with.ensures.stands p.0) (still-selected p.0 c.args.slot c.select_with.result p.1.0),
      ),
    )

pub returns : goal.returns
returns g c =
    let told = c.select_with.ensures in
    rw (← c.self.view_is) (record {
      answers = λ key_of events registry made e s.
          let at : (config : _) → slice_get made.configs c.args.slot ≡ Some config
          → c.unwrap_or-served.result ≡ served_at c.args.slot e =
          λ config there. c.unwrap_or-served.ensures ∙ number-there made c.args.slot (served_at c.args.slot e) c.served.result config there
          (c.served.ensures made (slot_events e) s.group) in
          asked-in-more g.S.BackendSelection.may_draw_random g.S.BackendSelection.walks
          (AcceptsBy g.F.Fn c.args.accept.now (Judges key_of events made e (served_at c.args.slot e)))
          (load_in c.args.loads.now) made (slot_events e) c.args.slot c.args.key.now c.args.limit c.args.random.now c.select_with.result
          (told.answers made (slot_events e) s.group)
          (λ config there b a is.
          accepts-served key_of events made e c.args.slot c.unwrap_or-served.result s.view registry (at config there) is.shown.now b a
          is.shows is.says.met);
      stands = λ made e s. joined-still made e (select_events made c.args.slot c.select_with.result) _ _ _ _ refl s (told.stands made)
          (still-selected made c.args.slot c.select_with.result e);
      site = record { group = told.site; id = refl; registry = refl };
    })
