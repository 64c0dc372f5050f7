-- A job holds the newest snapshot.
use Rattle.std.proofs.Common.{◌∷◌, refl}
use Rattle.lb_rebuild_core.specs.SlotsHistory.{Granted, At as Happened}
use Rattle.lb_rebuild_core.specs.Stands.{StandsFor}
use Rattle.lb_rebuild_core.specs.GroupHistory.{slot_events}
use Rattle.lb_rebuild_core.specs.GroupStates.{views_of}
use Rattle.lb_rebuild_core.proofs.Joins.{ask-fits, job-stands, job-joined, other-joined}
use Rattle.lb_rebuild_core.proofs.group.GroupCore.ask.Goals as goal
use Rattle.lb_rebuild_core.proofs.group.GroupCore.ask.Goals.{in-Job, in_default}

pub hold-requires : goal.hold-requires
hold-requires g c =
    let p = c.self.invariant in
    let s = p.1.1 in
    let after : StandsFor p.0 (Happened c.args.slot (Granted c.args.now) ∷ slot_events p.1.0) c.ask.new.self =
    job-stands p.0 (slot_events p.1.0) c.args.slot c.args.now c.in_ok-answer.answer c.in-Job._job c.ask.new.self c.in-Job.is
    (c.in_ok-answer.ensures.stands p.0 (slot_events p.1.0) s.group) in
    ask-fits p.0 p.1.0 c.args.slot c.args.now c.newest.result c.ask.new.self c.self.inside.view s.few s.view
    (c.in_ok-answer.ensures.answers p.0 (slot_events p.1.0) s.group).0 after (c.newest.ensures p.0 _ after)

pub invariant_of-self-in-Job : goal.invariant_of-self-in-Job
invariant_of-self-in-Job g c =
    let p = c.self.invariant in
    let s = p.1.1 in
    let after : StandsFor p.0 (Happened c.args.slot (Granted c.args.now) ∷ slot_events p.1.0) c.ask.new.self =
    job-stands p.0 (slot_events p.1.0) c.args.slot c.args.now c.in_ok-answer.answer c.in-Job._job c.ask.new.self c.in-Job.is
    (c.in_ok-answer.ensures.stands p.0 (slot_events p.1.0) s.group) in (
      p.0,
      (
        _,
        job-joined p.0 p.1.0 c.args.slot c.args.now c.newest.result c.ask.new.self c.hold.new.self s.few
            (c.in_ok-answer.ensures.answers p.0 (slot_events p.1.0) s.group).0 after (c.newest.ensures p.0 _ after)
            (c.hold.ensures.after (views_of p.0 p.1.0) s.view),
      ),
    )

pub returns : goal.returns
returns g c =
    let told = c.in_ok-answer.ensures in
    elim c.match-answer.branch [
      | in-Job w ↦ rw (w.self-is, ← c.self.view_is) (record {
        answers = λ made e s. told.answers made (slot_events e) s.group;
        stands = λ made e s.
            let after : StandsFor made (Happened c.args.slot (Granted c.args.now) ∷ slot_events e) c.ask.new.self =
            job-stands made (slot_events e) c.args.slot c.args.now c.in_ok-answer.answer w.in-Job._job c.ask.new.self w.in-Job.is
            (told.stands made (slot_events e) s.group) in
            rw w.in-Job.is (job-joined made e c.args.slot c.args.now w.newest.result c.ask.new.self w.hold.new.self s.few
            (told.answers made (slot_events e) s.group).0 after (w.newest.ensures made _ after)
            (w.hold.ensures.after (views_of made e) s.view));
        site = record { group = c.ask.ensures.site; id = w.hold.ensures.id; registry = refl };
        own = told.own;
        gate = told.gate;
        one_gate = told.one_gate;
      })
      | in_default w ↦ rw (w.self-is, ← c.self.view_is) (record {
        answers = λ made e s. told.answers made (slot_events e) s.group;
        stands = λ made e s. other-joined made e c.args.slot c.args.now c.in_ok-answer.answer c.ask.new.self c.self.inside.view s.few
            w.in_default.not-Job (told.stands made (slot_events e) s.group) s.view;
        site = record { group = c.ask.ensures.site; id = refl; registry = refl };
        own = told.own;
        gate = told.gate;
        one_gate = told.one_gate;
      })
    ]
