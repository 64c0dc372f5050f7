use Rattle.lb_rebuild.specs.Pass.{IsLater}
use Rattle.lb_threads_group.proofs.group.SharedGroup.enter_as.Given as goal

abbrev pub invariant-loop : goal.invariant-loop
invariant-loop g l = IsLater l.fn.pass l.pass
