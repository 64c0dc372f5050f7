use Rattle.std.proofs.Common.{◌≡◌, ◌&&◌, ◌∙◌, sym, ap, false, nat_le, length}
use Rattle.std.proofs.lemmas.Bool.{lt-leb}
use Rattle.std.specs.Arc.{arc_value}
use Rattle.std.specs.Fn.{FnReturnsAt}
use Rattle.lb_rebuild_core.proofs.Selecting.{not-random, enough-words, selected}
use Rattle.lb_rebuild_core.proofs.slot.Slot.select.Goals.{else-draws_random-via-then-draws_random+else-random-limit}
use Rattle.lb_rebuild_core.proofs.slot.Slot.select.Goals.{else-draws_random-via-else-draws_random}
use Rattle.lb_rebuild_core.proofs.slot.Slot.select.Goals as goal

pub returns-clause-selected : goal.returns-clause-selected
returns-clause-selected g c =
    let of = g.S.BackendSelection in
    let s = arc_value c.serving.inside.selector in
    let draws : c.draws_random.result ≡ of.may_draw_random (of.members s) (of.built_with s) =
    c.draws_random.ensures ∙ ap (λ (t : _). of.may_draw_random (of.members t) (of.built_with t)) c.deref.ensures in
    let enough : (of.may_draw_random (of.members s) (of.built_with s) && nat_le (length c.args.random.now) c.args.limit) ≡ false =
    elim c.else-draws_random.branch [
      | else-draws_random-via-then-draws_random+else-random-limit w ↦ enough-words _ _ (lt-leb _ _ w.if-random-limit.false)
      | else-draws_random-via-else-draws_random w ↦ not-random _ _ (sym draws ∙ w.if-draws_random.false)
    ] in
    selected of.may_draw_random of.walks (λ b a. FnReturnsAt g.F.Fn c.args.accept.now b a) c.args.loads.now c.args.key.now c.args.limit
    c.args.random.now
    _ _ _ c.new-words.result c.select-answer.new.words c.serving.view_is enough c.new-words.ensures c.drawn.ensures
    c.tickets-serving-inside.ensures
    c.select-answer.ensures
