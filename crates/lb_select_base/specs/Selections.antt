-- What a selection answers: the first accepted of the distinct among the first candidates, and the words that it drew.
use Rattle.std.specs.Prelude.{◌≡◌, ◌⊎◌, ℕ, ◌+◌, ◌≤◌, Bool, true, false, List, [], ◌∷◌, ◌++◌, length, take}
use Rattle.std.specs.Prelude.{Option, Some, None, Result, Ok, Err}
use Rattle.std.specs.List.{AllByRecursion as Each}
use Rattle.lb_select_base.specs.declared.refusal.Refusal.{Refusal}
use Rattle.lb_select_base.specs.declared.refusal.Refusal.TheVariants.{OutOfMemory}
use Rattle.lb_select_base.specs.declared.walk.BackendSelection.{Ghosts}
use Rattle.lb_select_base.specs.Backends.{Member}
use Rattle.lb_select_base.specs.Draws.{Draw, Gives}
use Rattle.lb_select_base.specs.Unique.{distinct}

-- These candidates were drawn, ended says whether the walk then ended, and this was answered. A member that is answered is
-- the last of them, within the limit, of an identity that did not come before, and accepted; all distinct ones before it
-- were refused. With None all distinct ones among the first `limit` were refused, and there were no more of them: one more
-- was drawn past the limit, or the walk ended within it.
module _ {B : Type 0} (same : B → B → Bool) (accepts : B → Bool → Type 0) (limit : ℕ) where
  abbrev pub IsAnswer : List B → Bool → Option B → Type 0
  IsAnswer cs ended (Some b) =
      (before : List B)
      × (cs ≡ before ++ b ∷ [])
      × (length cs ≤ limit)
      × (distinct same cs ≡ distinct same before ++ b ∷ [])
      × Each (λ x. accepts x false) (distinct same before)
      × accepts b true
  IsAnswer cs ended None =
      Each (λ x. accepts x false) (distinct same (take limit cs))
      × ((length cs ≡ limit + 1) ⊎ ((ended ≡ true) × (length cs ≤ limit)))

-- the last of these candidates is of an identity that did not come before
abbrev pub EndsDistinct : {B : Type 0} → (B → B → Bool) → List B → Type 0
EndsDistinct {B} same cs =
    (before : List B) × (b : B) × (cs ≡ before ++ b ∷ []) × (distinct same cs ≡ distinct same before ++ b ∷ [])

module _ {B S : Type 0} (gives : S → Draw → S → Type 0) (walks : List Draw → List B → Bool → Type 0) where
  -- the source went from s to t by the draws of a walk with these candidates
  pub record IsWalked (s t : S) (cs : List B) (ended : Bool) : Type 0 where
    pub draws : List Draw
    pub drawn : Gives gives s draws t
    pub walked : walks draws cs ended

-- What a selection answers, where the source went from s to t. It is refused for memory alone: before any draw, or at a
-- new candidate within the limit.
abbrev pub Selects :
    {B S : Type 0} → (B → B → Bool) → (B → Bool → Type 0) → ℕ → (S → Draw → S → Type 0)
    → (List Draw → List B → Bool → Type 0) → S → Result (Option B) Refusal → S → Type 0
Selects {B} same accepts limit gives walks s (Ok r) t =
    (cs : List B) × (ended : Bool) × IsWalked gives walks s t cs ended × IsAnswer same accepts limit cs ended r
Selects {B} same accepts limit gives walks s (Err e) t =
    (e ≡ OutOfMemory)
    × ((t ≡ s) ⊎ ((cs : List B) × IsWalked gives walks s t cs false × (length cs ≤ limit) × EndsDistinct same cs))

-- the walks of a selector for a key, by what its type says of itself
abbrev pub walks_of : {S C W : Type 0} → Ghosts S C W → S → List ℕ → List Draw → List Member → Bool → Type 0
walks_of ghosts s key = ghosts.walks (ghosts.members s) (ghosts.built_with s) key
