use Rattle.std.proofs.Common.{◌∙◌, refl}
use Rattle.lb_select_base.specs.Backends.{same_member}
use Rattle.lb_health_core.specs.Keys.{by_identity}
use Rattle.lb_threads_core.proofs.keyed.NoRuleKeyRule.same.Goals as goal

pub returns : goal.returns
returns c =
    λ key_of rule.
    c.eq.ensures ∙ (λ i. same_member (rule c.args.backend.now (by_identity c.args.backend.now) refl i)
    (rule c.args.other.now (by_identity c.args.other.now) refl i))
