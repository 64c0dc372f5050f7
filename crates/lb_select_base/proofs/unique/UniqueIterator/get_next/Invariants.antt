use Rattle.std.proofs.Common.{◌-◌}
use Rattle.lb_select_base.proofs.Turns.{Turning}
use Rattle.lb_select_base.proofs.unique.UniqueIterator.get_next.Given as goal

-- only repeats were passed so far
abbrev pub invariant-loop-candidate : goal.invariant-loop-candidate
invariant-loop-candidate g l = Turning g.W.WordSource.gives g.I.BackendIter.walk l.fn.self l.fn.words l.self l.words

abbrev pub decreases-loop-candidate : goal.decreases-loop-candidate
decreases-loop-candidate g l = l.self.max_iterations - l.self.steps
