-- Each candidate is judged at its own moment.
use Rattle.std.proofs.Common.{subst}
use Rattle.std.specs.Arc.{arc_value}
use Rattle.lb_select_base.specs.Backends.{same_member}
use Rattle.lb_select_base.specs.Copies.{AsCopied}
use Rattle.lb_rebuild_core.specs.GroupCalls.{AcceptsBy}
use Rattle.lb_balancer.specs.Selections.{IsReadyIn}
use Rattle.lb_balancer.specs.Shown.{SelectsOf, ShownValue}
use Rattle.lb_balancer.proofs.Judged.{asked_copies}
use Rattle.lb_balancer.proofs.balancing.Balancing.find_kept.Goals as goal

pub returns : goal.returns
returns g c =
    let kept = arc_value c.args.kept.now.shown in
    let accepts = AcceptsBy g.F.Fn c.args.accept.now (IsReadyIn g.R.KeyRule.gives c.args.self.now kept) in
    let Walks : ShownValue g.row.S-Config.Denot → Type 0 = λ x. AsCopied (SelectsOf same_member accepts c.args.max_iterations
    (g.S.BackendSelection.walks x.members x.config c.args.key.now)) c.find_drawing.result in
    let seen = c.deref-shown.result.now in
    let walks = g.S.BackendSelection.walks seen.members seen.config c.args.key.now in
    record {
      answers = subst Walks c.deref-shown.ensures
          (asked_copies accepts c.args.max_iterations walks c.find_drawing.result c.find_drawing.ensures.answers
          (λ b a told. subst (λ m. accepts m a) told.shows told.says.met));
    }
