use Rattle.std.proofs.Common.{rules, ◌<◌, length}
use Rattle.lb_proxy.proofs.PositionLemmas.{feed_more, other_more, one_later, one_more_later}
use Rattle.lb_proxy.proofs.position.line_at.Goals.{then-text-earlier-eq10, else-text-earlier-eq10}
use Rattle.lb_proxy.proofs.position.line_at.Goals as goal

pub loop-earlier-preserved : goal.loop-earlier-preserved
loop-earlier-preserved c =
    let kept = c.loop-earlier.invariant in
    let lt : c.loop-earlier.earlier < length c.args.text.now = search rules in
    elim c.if-text-earlier-eq10.branch [
      | then-text-earlier-eq10 w ↦ rw w.line-is (
        feed_more c.args.text.now c.loop-earlier.earlier c.loop-earlier.line lt w.if-text-earlier-eq10.true kept.0,
        one_more_later kept.1,
      )
      | else-text-earlier-eq10 w ↦ rw w.line-is (
        other_more c.args.text.now c.loop-earlier.earlier c.loop-earlier.line lt w.if-text-earlier-eq10.false kept.0,
        one_later kept.1,
      )
    ]
