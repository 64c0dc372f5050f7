use Rattle.std.proofs.Common.{◌≡◌, ◌++◌, map}
use Rattle.lb_select_base.specs.Backends.{Member}
use Rattle.lb_health_core.specs.Keys.{IsRuleOf}
use Rattle.lb_health_core.specs.Targets.{view_value, live, target_keys}
use Rattle.lb_health_core.proofs.targets.live_keys.Given as goal

abbrev pub invariant-loop-key : goal.invariant-loop-key
invariant-loop-key g l =
    (key_of : Member → Member) → IsRuleOf g.R.KeyRule.gives l.rule key_of
    → l.keys.items ++ l.key-iterator ≡ target_keys key_of (live (map view_value l.views))
