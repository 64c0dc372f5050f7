use Rattle.std.proofs.Common.{◌≡◌, map, drop}
use Rattle.lb_select_base.specs.Backends.{Member}
use Rattle.lb_health_core.specs.Fresh.{has_key}
use Rattle.lb_health_core.specs.Keys.{IsRuleOf}
use Rattle.lb_health_core.specs.Targets.{view_value, live}
use Rattle.lb_health_core.proofs.fresh.is_taken.Given as goal

abbrev pub invariant-loop-view : goal.invariant-loop-view
invariant-loop-view g l =
    (key_of : Member → Member) → IsRuleOf g.R.KeyRule.gives l.rule key_of
    → has_key key_of (live (map view_value (drop l.view-index l.views))) (key_of l.backend)
    ≡ has_key key_of (live (map view_value l.views)) (key_of l.backend)
