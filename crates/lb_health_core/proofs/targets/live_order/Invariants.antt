use Rattle.std.proofs.Common.{map, take}
use Rattle.lb_select_base.specs.Backends.{Member}
use Rattle.lb_health_core.specs.Internal.Gathering.{Gathers}
use Rattle.lb_health_core.specs.Keys.{IsRuleOf}
use Rattle.lb_health_core.specs.Targets.{view_value, live, candidates}
use Rattle.lb_health_core.proofs.targets.live_order.Given as goal

abbrev pub invariant-loop-view : goal.invariant-loop-view
invariant-loop-view g l =
    (key_of : Member → Member) → IsRuleOf g.R.KeyRule.gives l.rule key_of
    → Gathers (candidates key_of (live (map view_value (take l.view-index l.views)))) l.gathered
