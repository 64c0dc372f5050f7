use Rattle.std.proofs.Common.{map, ℕ}
use Rattle.lb_select_base.specs.Backends.{Member}
use Rattle.lb_select_base.specs.Draws.{load}
use Rattle.lb_select.proofs.LeastReading.{all_given}
use Rattle.lb_select.proofs.LeastRanks.{walk_begins}
use Rattle.lb_select.proofs.least.LeastConnectionsBackendSelection.start.Goals as goal

pub returns-clause-begins : goal.returns-clause-begins
returns-clause-begins g c =
    let p = c.in_ok-order.ensures.order in (
      map (λ (e : Member × ℕ). load e.0 e.1) p.given.read,
      all_given g.W.WordSource.gives c.args.words.now p.given.read p.given.drawn,
      λ es cs e w. walk_begins _ _ _ p es cs e w,
    )
