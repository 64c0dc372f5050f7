-- Each candidate is judged by those that weren't ready.
use Rattle.std.proofs.Common.{◌≡◌, subst}
use Rattle.lb_select_base.specs.Backends.{same_member}
use Rattle.lb_select_base.proofs.Copies.{copied_holds}
use Rattle.lb_rebuild_core.specs.GroupCalls.{AcceptsBy}
use Rattle.lb_balancer.specs.Shown.{SelectsOf, is_up}
use Rattle.lb_balancer.proofs.Judged.{asked_copies}
use Rattle.lb_balancer.proofs.shown.Shown.select_with.Goals as goal

pub returns : goal.returns
returns g c =
    let shown = c.args.self.now in
    let accepts = AcceptsBy g.F.Fn c.args.accept.now (λ b ready. ready ≡ is_up shown.unready b) in
    let walks = g.S.BackendSelection.walks shown.members shown.config c.args.key.now in
    let asked = asked_copies accepts c.args.max_iterations walks c.find_drawing-found.result c.find_drawing-found.ensures.answers
    (λ b a is. subst (λ m. accepts m a) is.shows is.says.met) in
    record {
      answers = copied_holds (SelectsOf same_member accepts c.args.max_iterations walks) c.find_drawing-found.result
          c.copied_answer.result asked c.copied_answer.ensures;
    }
