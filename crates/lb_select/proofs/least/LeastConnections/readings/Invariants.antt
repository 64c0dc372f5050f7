use Rattle.lb_select.specs.Readings.{AreRead}
use Rattle.lb_select.proofs.least.LeastConnections.readings.Given as goal

-- the backends before the index are read
abbrev pub invariant-loop-index : goal.invariant-loop-index
invariant-loop-index g l = AreRead (λ d. g.W.WordSource.gives l.words d l.words) l.self l.index l.readings.items
