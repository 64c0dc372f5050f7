-- What lanes and readers keep: words of the generation that is shown.
use Rattle.std.proofs.Common.{◌≡◌, ℕ, Option, Some, None, ap, subst}
use Rattle.std.specs.Prelude.{IfSome}
use Rattle.std.specs.Arc.{arc_value}
use Rattle.std.specs.declared.sync.Arc.{Arc}
use Rattle.lb_select_base.specs.Backends.{Member}
use Rattle.lb_balancer.specs.History.{BalancerValue}
use Rattle.lb_balancer.specs.Kept.{AreWordsOf, GenerationValue, IsKept}
use Rattle.lb_balancer.specs.Shown.{ShownValue}

module _ {D C R : Type 0} where
  -- words that are there are of this generation
  pub words-of : {Z : Type 0} (b : BalancerValue D C R) (n : ℕ) (o : Option (Arc (GenerationValue D C R) Z))
      (r : Arc (GenerationValue D C R) Z) → o ≡ Some r → AreWordsOf b n o → arc_value r ≡ record { balancer = b; number = n }
  words-of b n o r is of = subst (λ x. AreWordsOf b n x) is of

  -- and so they are of this balancer
  pub balancer-of : {Z : Type 0} (b : BalancerValue D C R) (n : ℕ) (o : Option (Arc (GenerationValue D C R) Z)) → AreWordsOf b n o
      → IfSome o (λ r. (arc_value r).balancer ≡ b)
  balancer-of b n (Some r) of = ap (λ (v : GenerationValue D C R). v.balancer) of
  balancer-of b n None of = tt

  module _ (gives : R → Member → Member → Type 0) where
    -- what is kept of a balancer is kept of an equal one
    pub kept-of : {Y Z : Type 0} (b c : BalancerValue D C R) (s : Arc (ShownValue C) Y) (o : Option (Arc (GenerationValue D C R) Z))
        → b ≡ c → IsKept gives b s o → IsKept gives c s o
    kept-of b c s o same kept = subst (λ (x : BalancerValue D C R). IsKept gives x s o) same kept
