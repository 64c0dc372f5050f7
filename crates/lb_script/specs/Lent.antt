-- What is left of a walk over a selector of one of the kinds. A walk of another kind fits no selector, and has nothing left.
use Rattle.std.specs.Prelude.{◌≡◌, ℕ, ⊤, Bool, true, false, List, [], refl}
use Rattle.lb_select_base.specs.Algorithms.{hash_word, ticket_word, random_word}
use Rattle.lb_select_base.specs.Backends.{Member}
use Rattle.lb_select_base.specs.Draws.{Draw}
use Rattle.lb_select.specs.Weights.{IsWeightedRest}
use Rattle.lb_select.specs.WeightLaws.{rest_none, rest_ends}
use Rattle.lb_select.specs.Readings.{IsInside, IsLeastRest}
use Rattle.lb_select.specs.LeastLaws.{rest_starts as least_starts, rest_ends as least_ends}
use Rattle.lb_select.specs.Placed.{Placed, IsWalkFrom}
use Rattle.lb_select.specs.RingLaws.{walk_starts, walk_ends}
use Rattle.lb_script.specs.declared.kinds.Chosen.{Chosen}
use Rattle.lb_script.specs.declared.kinds.Chosen.TheVariants as chosen
use Rattle.lb_script.specs.declared.kinds.ChosenWalk.{ChosenWalk}
use Rattle.lb_script.specs.declared.kinds.ChosenWalk.TheVariants as lent

-- the walk was begun over a selector of this kind
abbrev pub weighted_fits : ChosenWalk → Type 0
weighted_fits (lent.Weighted w) = ⊤
weighted_fits (lent.Ketama w) = ⊥
weighted_fits (lent.Least w) = ⊥

abbrev pub ring_fits : ChosenWalk → Type 0
ring_fits (lent.Weighted w) = ⊥
ring_fits (lent.Ketama w) = ⊤
ring_fits (lent.Least w) = ⊥

abbrev pub least_fits : List Member → ChosenWalk → Type 0
least_fits ms (lent.Weighted w) = ⊥
least_fits ms (lent.Ketama w) = ⊥
least_fits ms (lent.Least w) = IsInside ms w.order.items

abbrev pub chosen_fits : Chosen → ChosenWalk → Type 0
chosen_fits (chosen.Fnv selector) w = weighted_fits w
chosen_fits (chosen.RoundRobin selector) w = weighted_fits w
chosen_fits (chosen.Ketama selector) w = ring_fits w
chosen_fits (chosen.Least selector) w = least_fits selector w
chosen_fits (chosen.Random selector) w = weighted_fits w

-- nothing is drawn and no candidate comes
abbrev pub IsNothing : List Draw → List Member → Bool → Type 0
IsNothing ds cs ended = (ds ≡ []) × (cs ≡ [])

-- what is left of a walk
module _ (gives_word : List ℕ → List Draw → ℕ → Type 0) (ms : List Member) where
  abbrev pub weighted_rest : ChosenWalk → List Draw → List Member → Bool → Type 0
  weighted_rest (lent.Weighted w) = IsWeightedRest gives_word w.first ms w.word
  weighted_rest (lent.Ketama w) = IsNothing
  weighted_rest (lent.Least w) = IsNothing

  weighted_starts : (w : ChosenWalk) → weighted_rest w [] [] false
  weighted_starts (lent.Weighted w) = rest_none gives_word w.first ms w.word
  weighted_starts (lent.Ketama w) = (refl, refl)
  weighted_starts (lent.Least w) = (refl, refl)

  weighted_ends :
      (w : ChosenWalk) (ds : List Draw) (cs : List Member) (e : Bool) → weighted_rest w [] [] true → weighted_rest w ds cs e
      → (ds ≡ []) × (cs ≡ [])
  weighted_ends (lent.Weighted w) ds cs e over h = rest_ends gives_word w.first ms w.word ds cs e over h
  weighted_ends (lent.Ketama w) ds cs e over h = h
  weighted_ends (lent.Least w) ds cs e over h = h

module _ (ring : Placed) where
  abbrev pub ring_rest : ChosenWalk → List Draw → List Member → Bool → Type 0
  ring_rest (lent.Weighted w) = IsNothing
  ring_rest (lent.Ketama w) = IsWalkFrom ring w.at
  ring_rest (lent.Least w) = IsNothing

  ring_starts : (w : ChosenWalk) → ring_rest w [] [] false
  ring_starts (lent.Weighted w) = (refl, refl)
  ring_starts (lent.Ketama w) = walk_starts ring w.at
  ring_starts (lent.Least w) = (refl, refl)

  ring_ends :
      (w : ChosenWalk) (ds : List Draw) (cs : List Member) (e : Bool) → ring_rest w [] [] true → ring_rest w ds cs e
      → (ds ≡ []) × (cs ≡ [])
  ring_ends (lent.Weighted w) ds cs e over h = h
  ring_ends (lent.Ketama w) ds cs e over h = walk_ends ring w.at ds cs e over h
  ring_ends (lent.Least w) ds cs e over h = h

module _ (ms : List Member) where
  abbrev pub least_rest : ChosenWalk → List Draw → List Member → Bool → Type 0
  least_rest (lent.Weighted w) = IsNothing
  least_rest (lent.Ketama w) = IsNothing
  least_rest (lent.Least w) = IsLeastRest ms w.order.items w.at

  lasting_starts : (w : ChosenWalk) → least_rest w [] [] false
  lasting_starts (lent.Weighted w) = (refl, refl)
  lasting_starts (lent.Ketama w) = (refl, refl)
  lasting_starts (lent.Least w) = least_starts ms w.order.items w.at

  lasting_ends :
      (w : ChosenWalk) (ds : List Draw) (cs : List Member) (e : Bool) → least_rest w [] [] true → least_rest w ds cs e
      → (ds ≡ []) × (cs ≡ [])
  lasting_ends (lent.Weighted w) ds cs e over h = h
  lasting_ends (lent.Ketama w) ds cs e over h = h
  lasting_ends (lent.Least w) ds cs e over h = least_ends ms w.order.items w.at ds cs e over h

abbrev pub chosen_rest : Chosen → ChosenWalk → List Draw → List Member → Bool → Type 0
chosen_rest (chosen.Fnv selector) w = weighted_rest hash_word selector w
chosen_rest (chosen.RoundRobin selector) w = weighted_rest ticket_word selector w
chosen_rest (chosen.Ketama selector) w = ring_rest selector w
chosen_rest (chosen.Least selector) w = least_rest selector w
chosen_rest (chosen.Random selector) w = weighted_rest random_word selector w

-- a walk that has given nothing yet
pub chosen_rest_starts : (s : Chosen) (w : ChosenWalk) → chosen_rest s w [] [] false
chosen_rest_starts (chosen.Fnv selector) w = weighted_starts hash_word selector w
chosen_rest_starts (chosen.RoundRobin selector) w = weighted_starts ticket_word selector w
chosen_rest_starts (chosen.Ketama selector) w = ring_starts selector w
chosen_rest_starts (chosen.Least selector) w = lasting_starts selector w
chosen_rest_starts (chosen.Random selector) w = weighted_starts random_word selector w

-- a walk that is over gives nothing more
pub chosen_rest_ends :
    (s : Chosen) (w : ChosenWalk) (ds : List Draw) (cs : List Member) (e : Bool)
    → chosen_rest s w [] [] true → chosen_rest s w ds cs e → (ds ≡ []) × (cs ≡ [])
chosen_rest_ends (chosen.Fnv selector) w ds cs e over h = weighted_ends hash_word selector w ds cs e over h
chosen_rest_ends (chosen.RoundRobin selector) w ds cs e over h = weighted_ends ticket_word selector w ds cs e over h
chosen_rest_ends (chosen.Ketama selector) w ds cs e over h = ring_ends selector w ds cs e over h
chosen_rest_ends (chosen.Least selector) w ds cs e over h = lasting_ends selector w ds cs e over h
chosen_rest_ends (chosen.Random selector) w ds cs e over h = weighted_ends random_word selector w ds cs e over h
