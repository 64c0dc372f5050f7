use Rattle.std.proofs.Common.{List, ◌++◌}
use Rattle.lb_select_base.specs.Backends.{Member}
use Rattle.lb_health_core.specs.Internal.Gathering.{Gathers, IsGathering}
use Rattle.lb_health_core.specs.Keys.{IsRuleOf}
use Rattle.lb_health_core.specs.Targets.{Candidate, candidates_of}
use Rattle.lb_health_core.proofs.targets.gather.Given as goal

abbrev pub invariant-loop-backend : goal.invariant-loop-backend
invariant-loop-backend g l =
    (key_of : Member → Member) (before : List Candidate) → IsRuleOf g.R.KeyRule.gives l.rule key_of → Gathers before l.fn.gathered
    → IsGathering key_of l.id l.backend-iterator (before ++ candidates_of key_of l.id l.members.keys) l.gathered
