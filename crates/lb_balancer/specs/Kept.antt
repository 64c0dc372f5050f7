-- What lanes and readers of a balancer keep: what it showed, and words that say which of its members are ready.
use Rattle.std.specs.Prelude.{◌≡◌, ℕ, Option, IfSome}
use Rattle.std.specs.Arc.{arc_value}
use Rattle.std.specs.declared.sync.Arc.{Arc}
use Rattle.lb_select_base.specs.Backends.{Member}
use Rattle.lb_balancer.specs.History.{BalancerValue, IsShownBy}
use Rattle.lb_balancer.specs.Shown.{ShownValue}

-- of which balancer, and of which of its generations, words are
pub record GenerationValue (D C R : Type 0) : Type 0 where
  pub balancer : BalancerValue D C R
  pub number : ℕ

-- the words, where there are any, are of this generation of the balancer
abbrev pub AreWordsOf : {D C R Z : Type 0} → BalancerValue D C R → ℕ → Option (Arc (GenerationValue D C R) Z) → Type 0
AreWordsOf b n ready = IfSome ready (λ r. arc_value r ≡ record { balancer = b; number = n })

-- what a lane or a reader may keep: what the balancer showed, and words of its generation
abbrev pub IsKept : {D C R Y Z : Type 0} → (R → Member → Member → Type 0) → BalancerValue D C R → Arc (ShownValue C) Y
    → Option (Arc (GenerationValue D C R) Z) → Type 0
IsKept gives b shown ready = IsShownBy gives b (arc_value shown) × AreWordsOf b (arc_value shown).generation ready
