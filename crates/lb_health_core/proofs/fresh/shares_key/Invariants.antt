use Rattle.std.proofs.Common.{◌≡◌, take}
use Rattle.std.specs.List.{list_any}
use Rattle.lb_select_base.specs.Backends.{Member, same_member}
use Rattle.lb_health_core.specs.Keys.{IsRuleOf}
use Rattle.lb_health_core.proofs.fresh.shares_key.Given as goal

abbrev pub invariant-loop-other : goal.invariant-loop-other
invariant-loop-other g l =
    (key_of : Member → Member) → IsRuleOf g.R.KeyRule.gives l.rule key_of
    → list_any (λ m. same_member (key_of l.backend) (key_of m)) (take l.left l.other-iterator)
    ≡ list_any (λ m. same_member (key_of l.backend) (key_of m)) (take l.most l.members.keys)
