-- A walk over a list that is given: it draws nothing, gives the list's members in order, and ends after the last.
use Rattle.std.specs.Prelude.{◌≡◌, ℕ, Bool, true, false, List, [], ◌∷◌, ◌++◌, drop, Option, MatchOption, refl}
use Rattle.std.proofs.Common.{sym, ◌∙◌}
use Rattle.lb_select_base.specs.Backends.{Member}
use Rattle.lb_select_base.specs.Draws.{Draw}

-- nothing is drawn, the candidates are the list's first members, and the end comes only after the last
pub record IsListWalk (ms : List Member) (draws : List Draw) (cs : List Member) (ended : Bool) : Type 0 where
  pub undrawn : draws ≡ []
  pub rest : List Member
  pub given : ms ≡ cs ++ rest
  pub end : ended ≡ true → rest ≡ []

-- one step from a place of the list: the member there is given, and the walk goes on from the new place; or it is over
abbrev pub IsListStep : List Member → ℕ → Option Member → ℕ → Type 0
IsListStep ms at given new =
    MatchOption given (IsListWalk (drop at ms) [] [] true × IsListWalk (drop new ms) [] [] true)
    (λ b. (ds : List Draw) (cs : List Member) (e : Bool) → IsListWalk (drop new ms) ds cs e → IsListWalk (drop at ms) ds (b ∷ cs) e)

-- a walk that has given nothing yet
pub list_starts : (ms : List Member) → IsListWalk ms [] [] false
list_starts ms = record { undrawn = refl; rest = ms; given = refl; end = λ e. absurd (cc) }

-- no list before another makes an empty one, but the empty list
first_of_none : (cs rest : List Member) → [] ≡ cs ++ rest → cs ≡ []
first_of_none [] rest h = refl
first_of_none (c ∷ cs) rest h = absurd (cc)

-- a walk that is over gives nothing more
pub list_ends :
    (ms : List Member) (ds : List Draw) (cs : List Member) (e : Bool)
    → IsListWalk ms [] [] true → IsListWalk ms ds cs e → (ds ≡ []) × (cs ≡ [])
list_ends ms ds cs e over h = (h.undrawn, first_of_none cs h.rest (sym (over.given ∙ over.end refl) ∙ h.given))
