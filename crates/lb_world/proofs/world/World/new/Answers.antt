-- Its history is empty.
use Rattle.lb_world.proofs.Words.{[]}
use Rattle.lb_world.proofs.Tables.{empty}
use Rattle.lb_world.proofs.world.World.new.Goals as goal

pub invariant_of-result : goal.invariant_of-result
invariant_of-result g c =
    rw (c.new.ensures.items, c.new-2.ensures.items, c.new-3.ensures.items, c.new-4.ensures.items)
    (record { history = []; stands = empty _ })

pub returns : goal.returns
returns g c = rw (c.new.ensures.items, c.new-2.ensures.items, c.new-3.ensures.items, c.new-4.ensures.items) (empty _)
