use Rattle.lb_select.specs.Placed.{IsMarked}
use Rattle.lb_select.proofs.fill.marks_of.Given as goal

abbrev pub invariant-loop-index : goal.invariant-loop-index
invariant-loop-index l = IsMarked l.list l.index l.marks.owners.items l.marks.chains.items
