use Rattle.std.proofs.Common.{◌≡◌, ◌∙◌, refl, subst, rules}
use Rattle.lb_select_base.specs.Backends.{same_member}
use Rattle.lb_health_core.specs.declared.keys.Rule.{Rule}
use Rattle.lb_health_core.specs.Keys.{by_identity, by_address, IsRuleOf, rule_gives}
use Rattle.lb_health_core.proofs.keys.RuleKeyRule.same.Goals as goal

pub returns-in-Identity : goal.returns-in-Identity
returns-in-Identity g c =
    λ key_of rule.
    let Of : Rule g.row.N.Denot → Type 0 = λ r. IsRuleOf (rule_gives g.N.KeyRule.gives) r key_of in
    let of = subst Of c.in-Identity.is rule in
    c.eq.ensures ∙ (λ i. same_member (of c.args.backend.now (by_identity c.args.backend.now) refl i)
    (of c.args.other.now (by_identity c.args.other.now) refl i))

pub returns-in-Address : goal.returns-in-Address
returns-in-Address g c =
    λ key_of rule.
    let Of : Rule g.row.N.Denot → Type 0 = λ r. IsRuleOf (rule_gives g.N.KeyRule.gives) r key_of in
    let of = subst Of c.in-Address.is rule in
    let is : c.eq-in-Address.result ≡ same_member (by_address c.args.backend.now) (by_address c.args.other.now) = search rules in
    is ∙ (λ i. same_member (of c.args.backend.now (by_address c.args.backend.now) refl i)
    (of c.args.other.now (by_address c.args.other.now) refl i))

pub returns-in-Equivalence : goal.returns-in-Equivalence
returns-in-Equivalence g c =
    λ key_of rule.
    let Of : Rule g.row.N.Denot → Type 0 = λ r. IsRuleOf (rule_gives g.N.KeyRule.gives) r key_of in
    c.same.ensures key_of (subst Of c.in-Equivalence.is rule)
