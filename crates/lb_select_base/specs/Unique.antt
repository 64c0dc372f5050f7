-- The unique walk: first occurrences among the first candidates, and what a turn of `get_next` does.
use Rattle.std.specs.Prelude.{◌≡◌, ◌⊎◌, ◌+◌, ◌≤◌, max, Bool, true, false, ◌||◌, List, [], ◌∷◌, ◌++◌, length, if◌then◌else◌}
use Rattle.std.specs.Prelude.{Option, Some, None, Result, Ok, Err}
use Rattle.std.specs.List.{AllByRecursion as Each, list_any}
use Rattle.std.specs.BTreeSet.{contains}
use Rattle.lb_select_base.specs.declared.refusal.Refusal.{Refusal}
use Rattle.lb_select_base.specs.declared.refusal.Refusal.TheVariants.{OutOfMemory}
use Rattle.lb_select_base.specs.declared.seen.Came.{Came}
use Rattle.lb_select_base.specs.declared.seen.SeenBackends.{SeenBackends}
use Rattle.lb_select_base.specs.declared.unique.UniqueIterator.{UniqueIterator}
use Rattle.lb_select_base.specs.Backends.{Member, member_cmp, same_member}
use Rattle.lb_select_base.specs.Draws.{Draw, Gives}
use Rattle.lb_select_base.specs.Walks.{Continues}

module _ {B : Type 0} (same : B → B → Bool) where
  -- those of the list that are first of their kind, where these came before
  abbrev pub firsts : List B → List B → List B
  firsts before [] = []
  firsts before (x ∷ xs) =
      (if list_any (same x) before then firsts (before ++ x ∷ []) xs else x ∷ firsts (before ++ x ∷ []) xs)

  -- the first occurrences, in their order
  abbrev pub distinct : List B → List B
  distinct xs = firsts [] xs

-- whether a backend of this identity is among those that came: it came last, or is in the set of the earlier ones
abbrev pub has_come : Came → Member → Bool
has_come c q = same_member q c.last || contains member_cmp c.earlier q

-- whether a backend of this identity came already
abbrev pub has_any : Option Came → Member → Bool
has_any None q = false
has_any (Some c) q = has_come c q

abbrev pub has_backend : SeenBackends → Member → Bool
has_backend s q = has_any s.came q

-- the same of the backends that a unique walk has seen
abbrev pub has_seen : {I : Type 0} → UniqueIterator I → Member → Bool
has_seen u q = has_backend u.seen q

module _ {I : Type 0} where
  -- n has seen what u has seen, and nothing more
  abbrev pub SeesSame : UniqueIterator I → UniqueIterator I → Type 0
  SeesSame u n = (q : Member) → has_seen n q ≡ has_seen u q

  -- n has seen what u has seen, and this backend
  abbrev pub SeesMore : UniqueIterator I → Member → UniqueIterator I → Type 0
  SeesMore u b n = (q : Member) → has_seen n q ≡ (has_seen u q || same_member q b)

  -- u has seen a backend of each one's identity
  abbrev pub AreRepeats : UniqueIterator I → List Member → Type 0
  AreRepeats u bs = Each (λ b. has_seen u b ≡ true) bs

  -- the last of these candidates is b, of an identity that u has not seen, and those before it are repeats
  abbrev pub EndsNew : UniqueIterator I → List Member → Member → Type 0
  EndsNew u bs b =
      (skipped : List Member) × (bs ≡ skipped ++ b ∷ []) × AreRepeats u skipped × (has_seen u b ≡ false)

  -- What a turn from u to n gave that made these draws and went past these candidates. A backend is the last of them, and
  -- is seen from then on. With `None` all of them are repeats, and either the walk ended or one more candidate came past
  -- the limit. A refusal comes for memory alone, at a new backend, which stays unseen.
  abbrev pub Gave :
      (I → List Draw → List Member → Bool → Type 0)
      → UniqueIterator I → UniqueIterator I → List Draw → List Member → Result (Option Member) Refusal → Type 0
  Gave walk u n ds bs (Ok (Some b)) = Continues walk u.iter ds bs n.iter × SeesMore u b n × EndsNew u bs b
  Gave walk u n ds bs (Ok None) =
      AreRepeats u bs × SeesSame u n
      × ((walk u.iter ds bs true × walk n.iter [] [] true)
      ⊎ ((u.max_iterations ≤ n.steps) × ((b : Member) × Continues walk u.iter ds (bs ++ b ∷ []) n.iter)))
  Gave walk u n ds bs (Err e) =
      (e ≡ OutOfMemory) × Continues walk u.iter ds bs n.iter × SeesSame u n × ((b : Member) × EndsNew u bs b)

-- a turn: the draws that were made, the candidates that were gone past, each counted, up to the limit; and what it gave
pub record IsTurn {I S : Type 0} (gives : S → Draw → S → Type 0) (walk : I → List Draw → List Member → Bool → Type 0)
    (u : UniqueIterator I) (s : S) (r : Result (Option Member) Refusal) (n : UniqueIterator I) (t : S) : Type 0 where
  pub draws : List Draw
  pub passed : List Member
  pub drawn : Gives gives s draws t
  pub limit : n.max_iterations ≡ u.max_iterations
  pub counted : n.steps ≡ u.steps + length passed
  pub within : n.steps ≤ max u.steps u.max_iterations
  pub gave : Gave walk u n draws passed r
