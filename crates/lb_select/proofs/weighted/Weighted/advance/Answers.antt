use Rattle.std.proofs.Common.{refl, []}
use Rattle.lb_select.proofs.WeightLemmas.{first_rest, later_rest}
use Rattle.lb_select.proofs.weighted.Weighted.advance.Goals as goal

pub returns-then-walk : goal.returns-then-walk
returns-then-walk g c =
    let found = c.first_choice.ensures in
    ([], refl, rw (found.1, c.if-walk.true) (first_rest _ _ _ _ found.2))

pub returns : goal.returns
returns g c =
    let drawn = rw c.to_le_bytes.ensures at c.draw-walk.ensures in
    let found = c.fallback.ensures.member in
    (drawn.0, drawn.1, rw (found.1, c.if-walk.false) (later_rest _ _ _ _ _ _ drawn.2 found.2))
