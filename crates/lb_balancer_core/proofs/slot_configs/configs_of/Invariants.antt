use Rattle.std.proofs.Common.{◌≡◌}
use Rattle.lb_balancer_core.specs.SlotConfigs.{slot_configs}
use Rattle.lb_balancer_core.proofs.slot_configs.configs_of.Given as goal

abbrev pub invariant-loop-config : goal.invariant-loop-config
invariant-loop-config g l = l.slots.items ≡ slot_configs g.S.BackendSelection.default_config l.yielded
