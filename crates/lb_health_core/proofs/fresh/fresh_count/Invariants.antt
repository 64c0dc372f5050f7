use Rattle.std.proofs.Common.{◌≡◌, ◌+◌, ◌≤◌, ◌<◌, ◌^◌, ℕ, List, ◌++◌, length, map}
use Rattle.lb_select_base.specs.Backends.{Member}
use Rattle.lb_health_core.specs.Fresh.{fresh}
use Rattle.lb_health_core.specs.Keys.{IsRuleOf}
use Rattle.lb_health_core.specs.Targets.{view_value, live}
use Rattle.lb_health_core.proofs.FreshLemmas.{fresh_past}
use Rattle.lb_health_core.proofs.fresh.fresh_count.Given as goal

abbrev pub invariant-loop-backend : goal.invariant-loop-backend
invariant-loop-backend g l =
    (front : List Member) × (front ++ l.backend-iterator ≡ l.members.keys) × (l.place ≡ length front)
    × (length l.members.keys < 2 ^ 63) × (length l.backend-iterator ≤ l.count)
    × ((key_of : Member → Member) (id : ℕ) → IsRuleOf g.R.KeyRule.gives l.rule key_of
    → l.count + length (fresh_past key_of (live (map view_value l.views)) id front l.backend-iterator)
    ≡ length (fresh key_of (live (map view_value l.views)) id l.members.keys) + length l.backend-iterator)
