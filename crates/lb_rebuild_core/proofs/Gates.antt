-- Before a group's first membership no slot has a permit, so the group stands as well for another gate.
use Rattle.std.proofs.Common.{◌≡◌, ◌∙◌, ◌+◌, ℕ, true, List, [], ◌∷◌, refl, sym, ap, subst, arith, max, nat_lt}
use Rattle.std.proofs.lemmas.Bool.{ltb-true}
use Rattle.lb_rebuild_core.specs.Gate.{GateId}
use Rattle.lb_rebuild_core.specs.SlotsHistory.{Granted, Failed, Published, Abandoned, WorkerLost, TakenOut, Destroyed, Entered, Left, Drew}
use Rattle.lb_rebuild_core.specs.SlotsHistory.{DrewRetired, Scheduled, Cancelled, At, History, Extra, nothing}
use Rattle.lb_rebuild_core.specs.SlotsHistory.{flight_number, past_of, newest}
use Rattle.lb_rebuild_core.specs.SlotsHistory.{is_flight, is_under_way, is_retired_of, generation_of, granted, served, extra, IsPast}
use Rattle.lb_rebuild_core.specs.SlotsHistory.{IsSlotsHistory}
use Rattle.lb_rebuild_core.specs.Stands.{Made, StandsFor, slot_after, slots_after, group_after, permit_in}
use Rattle.lb_rebuild_core.specs.Values.{SlotValue, SlotsValue}
use Rattle.lb_rebuild_core.proofs.Pasts.{newest-past}

nothing-waits : (s n : ℕ) (e : Extra) → n ≡ 0 → nat_lt (max s (flight_number e)) n ≡ true → ⊥
nothing-waits s n e none w = let less = ltb-true (max s (flight_number e)) n w in omega arith

-- without a membership nothing stands beside what a slot serves
bare : (h : History) → IsPast h → newest h ≡ 0 → extra h ≡ nothing
bare [] p none = refl
bare (Scheduled ms now ∷ h) p none = absurd (omega (arith, none))
bare (Cancelled ∷ h) p none = bare h p none
bare (At i (Granted now) ∷ h) p none = absurd (nothing-waits (served h) (newest h) (extra h) none p.1.1)
bare (At i (Failed now ms) ∷ h) p none = refl
bare (At i (Published ended ms) ∷ h) p none =
    let flies : is_flight nothing ≡ true = subst (λ (x : Extra). is_flight x ≡ true) (bare h p.0 none) p.1.0 in absurd (cc)
bare (At i (Abandoned ms) ∷ h) p none =
    let up : is_under_way (granted h) nothing ≡ true = subst (λ (x : Extra). is_under_way (granted h) x ≡ true) (bare h p.0 none) p.1 in
    absurd (cc)
bare (At i WorkerLost ∷ h) p none =
    let flies : is_flight nothing ≡ true = subst (λ (x : Extra). is_flight x ≡ true) (bare h p.0 none) p.1 in absurd (cc)
bare (At i TakenOut ∷ h) p none =
    let out : is_retired_of 0 nothing ≡ true =
    subst (λ (x : Extra). is_retired_of (generation_of x) x ≡ true) (bare h p.0 none) p.1.0 in absurd (cc)
bare (At i Destroyed ∷ h) p none = refl
bare (At i Entered ∷ h) p none = bare h p.0 none
bare (At i (Left n) ∷ h) p none = bare h p.0 none
bare (At i (Drew t) ∷ h) p none = bare h p.0 none
bare (At i (DrewRetired t) ∷ h) p none = bare h p.0 none

module _ {C : Type 0} (g k : GateId) where
  slot-same : (c : C) (h : History) → extra h ≡ nothing → slot_after g c h ≡ slot_after k c h
  slot-same c h is = ap (λ p. record (slot_after g c h) { permit = p }) (ap (permit_in g) is ∙ sym (ap (permit_in k) is))

  slots-same : (i : ℕ) (cs : List C) (h : History) → IsSlotsHistory h → newest h ≡ 0 → slots_after g i cs h ≡ slots_after k i cs h
  slots-same i [] h all none = refl
  slots-same i (c ∷ cs) h all none =
      ap (λ (z : SlotValue C). z ∷ slots_after g (i + 1) cs h)
      (slot-same c (past_of i h) (bare (past_of i h) (all i) (newest-past i h ∙ none)))
      ∙ ap (λ (l : List (SlotValue C)). slot_after k c (past_of i h) ∷ l) (slots-same (i + 1) cs h all none)

-- the same group with another gate
pub gated : {C : Type 0} (k : GateId) (made : Made C) (h : History) (v : SlotsValue C) → newest h ≡ 0 → StandsFor made h v
    → StandsFor (record made { gate = k }) h (record v { gate = k })
gated {C} k made h v none s =
    record {
      possible = s.possible;
      bounded = s.bounded;
      shows = ap (λ (w : SlotsValue C). record w { gate = k }) s.shows
          ∙ ap (λ (l : List (SlotValue C)). record (group_after made h) { gate = k; slots = l })
          (slots-same made.gate k 0 made.configs h s.possible none);
    }
