use Rattle.lb_balancer_core.specs.Looks.{Answers}
use Rattle.lb_balancer_core.proofs.Visits.{Visited}
use Rattle.lb_balancer_core.proofs.select.first_accepted.Given as goal

-- all distinct ones among the candidates so far were asked for and refused, and the walk is one over the selector
abbrev pub invariant-loop : goal.invariant-loop
invariant-loop g l =
    Visited (λ w. w.port.now) (λ w. w.reader.now) (λ w. w.port.ghost_name) g.P.SelectPort.draws g.P.SelectPort.readies
    (g.S.BackendSelection.rest l.of) (λ b ready a. Answers g.F.Fn l.fn.accept b ready a) l.initial.walk l.initial.words l.seen l.walk
    l.words l.counter
    × g.S.BackendSelection.fits l.of l.walk
