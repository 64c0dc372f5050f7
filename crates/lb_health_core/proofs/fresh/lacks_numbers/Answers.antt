use Rattle.std.proofs.Common.{[], map, arith}
use Rattle.lb_health_core.specs.Targets.{view_value, live}
use Rattle.lb_health_core.proofs.FreshLemmas.{fresh-le}
use Rattle.lb_health_core.proofs.fresh.lacks_numbers.Goals as goal

pub returns-then-len-left-clause-lacks : goal.returns-then-len-left-clause-lacks
returns-then-len-left-clause-lacks g c =
    λ key_of id rule. (
      λ e. absurd (cc),
      λ l. absurd (omega (
        arith,
        l,
        fresh-le key_of (live (map view_value c.args.views.now)) id [] c.args.members.now.keys,
        c.len.ensures.len,
        c.if-len-left.true,
        c.ranges.next.fits,
      )),
    )
