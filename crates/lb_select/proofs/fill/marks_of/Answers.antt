use Rattle.std.proofs.Common.{◌≡◌, length, arith}
use Rattle.lb_select.proofs.Marking.{marked_none}
use Rattle.lb_select.proofs.fill.marks_of.Goals as goal

pub loop-index-init : goal.loop-index-init
loop-index-init c = rw (c.new.ensures.items, c.new-2.ensures.items) (marked_none c.args.list.now)

pub returns : goal.returns
returns c = let e : c.loop-index.index ≡ length c.args.list.now = omega arith in rw e at c.loop-index.invariant
