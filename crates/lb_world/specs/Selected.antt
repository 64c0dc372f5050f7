-- What a selection answers, as the promise says it: the first accepted backend among the distinct of the first candidates of one
-- generation, judged by that generation's live cells.
use Rattle.std.specs.Prelude.{◌≡◌, ◌<◌, ◌⊎◌, ℕ, Bool, true, false, List, [], ◌∷◌, ◌++◌, length, take, Option, Some, None, Ok, MatchOption}
use Rattle.std.specs.List.{AllByRecursion as Each}
use Rattle.lb_select_base.specs.Backends.{Member, same_member}
use Rattle.lb_select_base.specs.Draws.{Draw, Gives, HandedValue, LoadedGives}
use Rattle.lb_select_base.specs.Unique.{distinct}
use Rattle.lb_rebuild_core.specs.SlotsHistory as slots
use Rattle.lb_world.specs.Steps.{Step}
use Rattle.lb_world.specs.Steps as step
use Rattle.lb_world.specs.declared.answer.Answer.{Answer}
use Rattle.lb_world.specs.Meanings.{Meaning}
use Rattle.lb_world.specs.History.{History, config, slot_events, past, load_of}
use Rattle.lb_world.specs.Answers.{Judges, selected}

-- the first of these that is accepted, those before it refused; or none, where all are refused
abbrev pub IsFirst : (Member → Bool → Type 0) → List Member → Option Member → Type 0
IsFirst judged xs None = Each (λ x. judged x false) xs
IsFirst judged xs (Some b) =
    (before : List Member) × (after : List Member) × (xs ≡ before ++ b ∷ after) × Each (λ x. judged x false) before × judged b true

-- the candidates suffice for the answer None: there are more of them than the limit, or the walk ended
abbrev pub AreEnough : ℕ → List Member → Bool → Option Member → Type 0
AreEnough limit cs ended None = (limit < length cs) ⊎ (ended ≡ true)
AreEnough limit cs ended (Some b) = Unit {0}

-- A walk with draws from this source gave candidates. However it would have gone on, r is the first accepted backend among the
-- distinct of its first `limit` candidates, or None where none of them is accepted.
pub record IsFirstAccepted (judged : Member → Bool → Type 0) (gives : HandedValue → Draw → HandedValue → Type 0)
    (walks : List Draw → List Member → Bool → Type 0) (limit : ℕ) (source left : HandedValue) (r : Option Member)
    : Type 0 where
  pub draws : List Draw
  pub candidates : List Member
  pub ended : Bool
  pub drawn : Gives gives source draws left
  pub walked : walks draws candidates ended
  pub first : (more : List Member) → (ended ≡ true → more ≡ [])
      → IsFirst judged (distinct same_member (take limit (candidates ++ more))) r
  pub enough : AreEnough limit candidates ended r

module _ {C : Type 0} (M : Meaning C) where
  -- of generation n of group g: its members, the slot's configuration, its cells and flags as they are
  abbrev pub SelectedOf : History C → ℕ → ℕ → ℕ → C → List ℕ → ℕ → List ℕ → HandedValue → Option Member → Type 0
  SelectedOf h g s n c key limit words left r =
      IsFirstAccepted (Judges h g n) (LoadedGives (λ b. load_of g b h)) (M.walks (slots.members_of n (slot_events g h)) c key) limit
      (record { tickets = slots.drawn (past g s h); words = words }) left r

  -- Each selection that is not refused answers so of the one generation that its slot serves, or none where there is no such slot.
  abbrev pub FirstAccepted : History C → Step C → Answer → Type 0
  FirstAccepted h (step.select g s key limit words) a =
      (t : ℕ) (r : Option Member) → a ≡ selected t (Ok r)
      → MatchOption (config g s h) (r ≡ None)
      (λ c. (left : HandedValue) × (left.tickets ≡ t) × SelectedOf h g s (slots.served (past g s h)) c key limit words left r)
  FirstAccepted h st a = Unit {0}
