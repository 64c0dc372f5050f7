-- Selections of a balancer that threads share.
use Rattle.std.specs.Prelude.{◌≡◌, ◌⊎◌, ℕ, Bool, List, Option, Result}
use Rattle.lb_select_base.specs.Backends.{Member, same_member}
use Rattle.lb_select_base.specs.Draws.{Draw}
use Rattle.lb_select_base.specs.declared.refusal.Refusal.{Refusal}
use Rattle.lb_balancer.specs.History.{BalancerValue, JudgedIn}
use Rattle.lb_balancer.specs.Shown.{SelectsOf, ShownValue, is_up}

-- what is known of a reader: its balancer, and what it saw last
pub record ReaderValue (D C R : Type 0) : Type 0 where
  pub balancing : BalancerValue D C R
  pub seen : ShownValue C

-- whether a backend was ready in what is shown
abbrev pub WasReady : {C : Type 0} → ShownValue C → Member → Bool → Type 0
WasReady s b ready = ready ≡ is_up s.unready b

module _ {R : Type 0} (gives : R → Member → Member → Type 0) {D C : Type 0} (b : BalancerValue D C R) where
  -- whether a backend is ready for a selection from what is shown: as it was judged at a moment of its own, while that generation was
  -- served, or as it was when that was shown
  abbrev pub IsReadyIn : ShownValue C → Member → Bool → Type 0
  IsReadyIn s m ready = JudgedIn gives b s.generation m ready ⊎ WasReady s m ready

  module _ (accepts : (Member → Bool → Type 0) → Member → Bool → Type 0) (limit : ℕ)
      (walks : List Member → C → List ℕ → List Draw → List Member → Bool → Type 0) (key : List ℕ) where
    -- a selection from what is shown: its candidates are those of its members, and what is asked of each gets whether it is ready
    abbrev pub SelectsFrom : ShownValue C → Result (Option Member) Refusal → Type 0
    SelectsFrom s r = SelectsOf same_member (accepts (IsReadyIn s)) limit (walks s.members s.config key) r
