-- The selection is one in what the lane has, which the balancer showed.
use Rattle.std.specs.Prelude.{Ok, Some}
use Rattle.std.specs.Arc.{arc_value}
use Rattle.lb_select_base.proofs.Copies.{copied_holds}
use Rattle.lb_rebuild_core.specs.GroupCalls.{AcceptsBy}
use Rattle.lb_balancer.specs.History.{IsShownBy}
use Rattle.lb_balancer.specs.Selections.{SelectsFrom}
use Rattle.lb_balancer.specs.Shown.{ShownValue}
use Rattle.lb_balancer.proofs.Judged.{either_refused}
use Rattle.lb_balancer.proofs.Kepts.{kept-of}
use Rattle.lb_balancer_core.proofs.Memberships.{if-answered}
use Rattle.lb_balancer.proofs.balancing.Balancing.select_in_lane.Goals as goal

pub returns-in-Ok-Some-clause-answers : goal.returns-in-Ok-Some-clause-answers
returns-in-Ok-Some-clause-answers g c =
    let gives = g.R.KeyRule.gives in
    let b = c.args.self.now in
    let kept = c.in_ok-kept.kept.now in
    let same = c.in_ok-seen.ensures in
    let is = kept-of gives c.in_ok-seen.seen.hand.tag b kept.shown kept.ready same c.in_ok-kept.ensures in
    let Found : Type 0 = (x : ShownValue g.row.S-Config.Denot) × IsShownBy gives b x
    × SelectsFrom gives b (AcceptsBy g.F.Fn c.args.accept.now) c.args.max_iterations g.S.BackendSelection.walks c.args.key.now x
    c.answer_of.result in
    let both = rw (c.in-Ok-Some.is, c.in-Ok-Some.field-0-is) at c.find_kept.ensures.answers in
    let answered = copied_holds
    (SelectsFrom gives b (AcceptsBy g.F.Fn c.args.accept.now) c.args.max_iterations g.S.BackendSelection.walks c.args.key.now
    (arc_value kept.shown)) (Ok (Some c.in-Ok-Some.found)) c.answer_of.result both
    (c.answer_of.ensures c.in-Ok-Some.found.now c.copied-copy.ensures) in
    if-answered c.answer_of.result Found (arc_value kept.shown, is.0, answered)

pub returns-in-Ok-Some-clause-refused : goal.returns-in-Ok-Some-clause-refused
returns-in-Ok-Some-clause-refused g c =
    either_refused c.answer_of.result c.in-Ok-Some.found.now (c.answer_of.ensures c.in-Ok-Some.found.now c.copied-copy.ensures)

pub returns-in-Ok-None-clause-answers : goal.returns-in-Ok-None-clause-answers
returns-in-Ok-None-clause-answers g c =
    let gives = g.R.KeyRule.gives in
    let b = c.args.self.now in
    let kept = c.in_ok-kept.kept.now in
    let same = c.in_ok-seen.ensures in
    let is = kept-of gives c.in_ok-seen.seen.hand.tag b kept.shown kept.ready same c.in_ok-kept.ensures in
    (arc_value kept.shown, is.0, rw (c.in-Ok-None.is, c.in-Ok-None.field-0-is) at c.find_kept.ensures.answers)
