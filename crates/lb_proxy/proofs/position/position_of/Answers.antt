use Rattle.std.proofs.Common.{rules, ◌≡◌, ◌+◌, ◌==◌, ◌||◌, true, false, Some, None, take, length, slice_index, sym, inr, ◌∙◌}
use Rattle.lb_proxy.specs.Config.{said}
use Rattle.lb_proxy.specs.Position.{shown_by}
use Rattle.lb_proxy.proofs.PositionLemmas.{start_after, none_between, none_more, no_line, no_later, one_later}
use Rattle.lb_proxy.proofs.PositionLemmas.{nowhere_false, nowhere_none, nowhere_no_end}
use Rattle.lb_proxy.proofs.position.position_of.Goals.{then-is_end+in_ok-shown+in-Some-false, then-is_end+in_ok-shown+in-None, else-is_end}
use Rattle.lb_proxy.proofs.position.position_of.Goals as goal

pub loop-place-preserved : goal.loop-place-preserved
loop-place-preserved c =
    let kept = c.loop-place.invariant in
    let text = c.args.text.now in
    let fault = said c.args.fault.now in
    let place = c.loop-place.place in
    elim c.if-is_end.branch [
      | then-is_end+in_ok-shown+in-Some-false w ↦
          let end : ((slice_index text place == 10) || (place + 1 == length text)) ≡ true = sym c.is_end.ensures ∙ w.if-is_end.true in
          let is : shown_by (take (place + 1) text) fault ≡ Some false = search rules in
          rw w.start-is (
            start_after text place end,
            inr is,
            no_later (place + 1),
            none_between text fault (place + 1),
            nowhere_false text fault place kept.4 is,
          )
      | then-is_end+in_ok-shown+in-None w ↦
          let is : shown_by (take (place + 1) text) fault ≡ None = search rules in
          rw w.start-is (
            kept.0,
            kept.1,
            one_later kept.2,
            none_more text fault c.loop-place.start place kept.3 (λ line. is),
            nowhere_none text fault place kept.4 is,
          )
      | else-is_end w ↦
          let other : ((slice_index text place == 10) || (place + 1 == length text)) ≡ false =
          sym c.is_end.ensures ∙ w.if-is_end.false in
          rw w.start-is (
            kept.0,
            kept.1,
            one_later kept.2,
            none_more text fault c.loop-place.start place kept.3 (λ line. absurd (no_line text place other line)),
            nowhere_no_end text fault place kept.4 other,
          )
    ]
