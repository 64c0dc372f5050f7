-- What is asked answers by what it is passed.
use Rattle.lb_select_base.specs.Loads.{load_in}
use Rattle.lb_rebuild_core.specs.GroupCalls.{served_at, Judges}
use Rattle.lb_rebuild_core.specs.GroupHistory.{slot_events}
use Rattle.lb_rebuild_core.proofs.Judging.{told-in-more}
use Rattle.lb_rebuild_core.proofs.group.GroupCore.select.Goals as goal

pub returns : goal.returns
returns g c =
    let told = c.select_with.ensures in record {
      answers = λ key_of events registry made e s.
          told-in-more (Judges key_of events made e (served_at c.args.slot e)) g.S.BackendSelection.may_draw_random
          g.S.BackendSelection.walks (load_in c.args.loads.now) made (slot_events e) c.args.slot c.args.key.now c.args.limit
          c.args.random.now c.select_with.result (told.answers key_of events registry made e s) (λ p told a is. is.met);
      stands = told.stands;
      site = told.site;
    }
