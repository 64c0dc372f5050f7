use Rattle.std.proofs.Common.{◌≡◌, take}
use Rattle.lb_balancer_group.proofs.making.copies_of.Given as goal

abbrev pub invariant-loop-config : goal.invariant-loop-config
invariant-loop-config g l = l.slots.items ≡ take l.config-index l.configs
