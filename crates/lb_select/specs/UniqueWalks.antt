-- A unique walk from its beginning to its end: what successive turns find, and what they come to. Stated over turns alone, whatever
-- gives the words and the candidates.
use Rattle.std.specs.Prelude.{◌≡◌, ◌⊎◌, ◌+◌, ◌≤◌, ℕ, Bool, true, false, List, [], ◌∷◌, length, take, Some, None, Ok}
use Rattle.lb_select_base.specs.declared.unique.UniqueIterator.{UniqueIterator}
use Rattle.lb_select_base.specs.Backends.{Member, same_member}
use Rattle.lb_select_base.specs.Draws.{Draw}
use Rattle.lb_select_base.specs.Selections.{IsWalked}
use Rattle.lb_select_base.specs.Unique.{distinct, has_seen, IsTurn}
use Rattle.lb_select_base.specs.Walks.{Begins}

-- no turn was made of it
pub record IsUnused {I : Type 0} (u : UniqueIterator I) : Type 0 where
  pub steps : u.steps ≡ 0
  pub seen : (q : Member) → has_seen u q ≡ false

-- What was found are the distinct of the first `limit` of these candidates, and there are no more of them: one more came past the
-- limit, or the walk ended within it.
pub record AreAllDistinct (limit : ℕ) (cs : List Member) (ended : Bool) (found : List Member) : Type 0 where
  pub distinct_of_first : found ≡ distinct same_member (take limit cs)
  pub no_more : (length cs ≡ limit + 1) ⊎ ((ended ≡ true) × (length cs ≤ limit))

module _ {I S : Type 0} (gives : S → Draw → S → Type 0) (walk : I → List Draw → List Member → Bool → Type 0) where
  -- turns from u and s to n and t: these backends were found one after another, and then none
  abbrev pub Finds : UniqueIterator I → S → List Member → UniqueIterator I → S → Type 0
  Finds u s [] n t = IsTurn gives walk u s (Ok None) n t
  Finds u s (b ∷ bs) n t =
      (v : UniqueIterator I) × (w : S) × IsTurn gives walk u s (Ok (Some b)) v w × Finds v w bs n t

  -- Where a walk began that is one of these, and turns over it up to the first that gives none were not refused, they found the
  -- distinct of its first candidates, and made its draws alone.
  abbrev pub TurnsAreOneWalk : (List Draw → List Member → Bool → Type 0) → Type 0
  TurnsAreOneWalk whole =
      (u n : UniqueIterator I) (r s t : S) (found : List Member)
      → Begins gives walk whole r (Ok u.iter) s → IsUnused u → Finds u s found n t
      → (cs : List Member) × (ended : Bool) × IsWalked gives whole r t cs ended × AreAllDistinct u.max_iterations cs ended found
