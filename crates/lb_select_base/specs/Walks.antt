-- What a walk is: a relation between the draws that were made, the first candidates that came, and whether the walk ended.
-- An endless walk and one that ends are described alike, and steps compose from the back.
use Rattle.std.specs.Prelude.{◌≡◌, ⊤, Bool, true, List, [], ◌∷◌, ◌++◌, Option, Result, Ok, Err, MatchOption}
use Rattle.std.specs.Borrow.{follows_so, Fml, RattleType, MutBor}
use mathlib.Core.Option.{none}
use Rattle.lb_select_base.specs.declared.refusal.Refusal.{Refusal}
use Rattle.lb_select_base.specs.declared.refusal.Refusal.TheVariants.{OutOfMemory}
use Rattle.lb_select_base.specs.Draws.{Draw, Gives}

module _ {I B : Type 0} (walk : I → List Draw → List B → Bool → Type 0) where
  -- whatever the walk from n on is, the walk from i on is these draws and candidates, then that
  abbrev pub Continues : I → List Draw → List B → I → Type 0
  Continues i ds bs n = (es : List Draw) (cs : List B) (e : Bool) → walk n es cs e → walk i (ds ++ es) (bs ++ cs) e

-- P holds of what was borrowed once a result that only reads it is dropped
abbrev pub Leaves : (R : RattleType) → MutBor R.Denot → (R.Denot → Type 0) → Fml
Leaves R lent P = follows_so R R lent.ghost_name none (λ _ _. ⊤) P

-- one step: a candidate, or the end, after which the walk is over for good
abbrev pub IsStep :
    {I B S : Type 0} → (S → Draw → S → Type 0) → (I → List Draw → List B → Bool → Type 0)
    → I → S → Option B → I → S → Type 0
IsStep gives walk i s r n t =
    (ds : List Draw) × Gives gives s ds t
    × MatchOption r (walk i ds [] true × walk n [] [] true) (λ b. Continues walk i ds (b ∷ []) n)

-- a walk's beginning: what it draws before any candidate; a refusal comes before any draw
abbrev pub Begins :
    {I B S : Type 0} → (S → Draw → S → Type 0) → (I → List Draw → List B → Bool → Type 0)
    → (List Draw → List B → Bool → Type 0) → S → Result I Refusal → S → Type 0
Begins {I} {B} gives walk whole s (Ok i) t =
    (ds : List Draw) × Gives gives s ds t
    × ((es : List Draw) (cs : List B) (e : Bool) → walk i es cs e → whole (ds ++ es) cs e)
Begins gives walk whole s (Err e) t = (t ≡ s) × (e ≡ OutOfMemory)
