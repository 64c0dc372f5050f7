use Rattle.lb_world.proofs.world.Tables.close.Given as goal

abbrev pub invariant-loop-place : goal.invariant-loop-place
invariant-loop-place g l = Unit {0}

abbrev pub decreases-loop-place : goal.decreases-loop-place
decreases-loop-place g l = goal.left-loop-place g l

abbrev pub invariant-loop-entry : goal.invariant-loop-entry
invariant-loop-entry g l = Unit {0}

abbrev pub decreases-loop-entry : goal.decreases-loop-entry
decreases-loop-entry g l = goal.left-loop-entry g l
