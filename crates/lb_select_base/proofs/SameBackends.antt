-- Backends compare equal exactly where their identities are equal.
use Rattle.std.proofs.Common.{◌≡◌, ℕ, IsTrue, ◌↔◌, rules, subst}
use Rattle.std.specs.Cmp.{IsEquivalence}
use Rattle.std.specs.Cmp.Rules.{comparing}
use Rattle.lb_select_base.specs.Backends.{Address, Member, same_member, identity_of}
use Rattle.lb_select_base.specs.Identity.{same_means}

same_equivalence : IsEquivalence same_member
same_equivalence = search (comparing, rules) depth 9

pub same_by_identity : (x y : Member) → IsTrue (same_member x y) ↔ (identity_of x ≡ identity_of y)
same_by_identity x y =
    let SameAt : Address × ℕ → Type 0 = λ i. IsTrue (same_member x (record { address = i.0; weight = i.1; ext = y.ext })) in (
      (λ same. let means = same_means x y same in λ i. (means.0 i, means.1 i)),
      (λ e. subst SameAt e (same_equivalence.refl x)),
    )
