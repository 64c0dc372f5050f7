-- What the turns of a unique walk come to: each backend that is found is one distinct candidate more, and a walk that is over
-- stays over. Stated over turns alone, whatever gives the words and the candidates.
use Rattle.std.specs.Prelude.{◌≡◌, ◌≤◌, Bool, true, List, [], ◌∷◌, ◌++◌, Option, Some, None, Result, Ok, Err}
use Rattle.std.specs.List.{list_any}
use Rattle.lb_select_base.specs.declared.refusal.Refusal.{Refusal}
use Rattle.lb_select_base.specs.declared.seen.SeenBackends.{SeenBackends}
use Rattle.lb_select_base.specs.declared.unique.UniqueIterator.{UniqueIterator}
use Rattle.lb_select_base.specs.Backends.{Member, same_member}
use Rattle.lb_select_base.specs.Draws.{Draw}
use Rattle.lb_select_base.specs.Unique.{distinct, has_backend, IsTurn}

-- what was seen are exactly the backends of these candidates, by identity
abbrev pub AreSeen : SeenBackends → List Member → Type 0
AreSeen seen cs = (q : Member) → has_backend seen q ≡ list_any (same_member q) cs

-- A turn that went past these candidates, where `cs` were seen before: a backend that was found is one distinct candidate
-- more; else there are no more of them. A turn that was refused leaves `cs` seen.
abbrev pub AddsDistinct : List Member → List Member → Result (Option Member) Refusal → SeenBackends → Type 0
AddsDistinct cs passed (Ok (Some b)) seen =
    AreSeen seen (cs ++ passed) × (distinct same_member (cs ++ passed) ≡ distinct same_member cs ++ b ∷ [])
AddsDistinct cs passed (Ok None) seen =
    AreSeen seen (cs ++ passed) × (distinct same_member (cs ++ passed) ≡ distinct same_member cs)
AddsDistinct cs passed (Err e) seen = AreSeen seen cs

module _ {I S : Type 0} (gives : S → Draw → S → Type 0) (walk : I → List Draw → List Member → Bool → Type 0) where
  -- each backend that a turn finds is one distinct candidate more
  abbrev pub TurnsAreDistinct : Type 0
  TurnsAreDistinct =
      (u n : UniqueIterator I) (s t : S) (r : Result (Option Member) Refusal) (turn : IsTurn gives walk u s r n t)
      → (cs : List Member) → AreSeen u.seen cs → AddsDistinct cs turn.passed r n.seen

  -- once the limit is met every turn gives None, and it stays met
  abbrev pub LimitStaysMet : Type 0
  LimitStaysMet =
      (u n : UniqueIterator I) (s t : S) (r : Result (Option Member) Refusal) → IsTurn gives walk u s r n t
      → u.max_iterations ≤ u.steps → (r ≡ Ok None) × (n.max_iterations ≤ n.steps)

  -- once the walk has ended every turn gives None, and it stays ended
  abbrev pub EndStaysMet : Type 0
  EndStaysMet =
      (u n : UniqueIterator I) (s t : S) (r : Result (Option Member) Refusal) → IsTurn gives walk u s r n t
      → walk u.iter [] [] true → (r ≡ Ok None) × walk n.iter [] [] true
