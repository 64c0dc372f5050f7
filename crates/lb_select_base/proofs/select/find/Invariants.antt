use Rattle.std.specs.Fn.{FnReturnsAt}
use Rattle.lb_select_base.proofs.Searches.{Searched}
use Rattle.lb_select_base.proofs.select.find.Given as goal

-- all distinct ones among the candidates so far were refused, and the walk is one over the selector
abbrev pub invariant-loop : goal.invariant-loop
invariant-loop g l =
    Searched g.W.WordSource.gives (g.S.BackendSelection.rest l.fn.selector) (λ b r. FnReturnsAt g.F.Fn l.fn.accept b r)
    l.initial.walk l.initial.words l.seen l.walk l.words l.counter
    × g.S.BackendSelection.fits l.fn.selector l.walk
