-- How a new board comes to show a group, word by word.
use Rattle.std.proofs.Common.{◌≡◌, ◌≢◌, ◌≤◌, ◌<◌, ◌+◌, ◌∙◌, ℕ, zero, suc, Bool, true, false, cond, max, nat_lt, List, [], ◌∷◌, length}
use Rattle.std.proofs.Common.{replicate, set, get_or, get_or-set_same, get_or-set_other, length-set, ext_get_or, add-one, refl, sym, ap}
use Rattle.std.proofs.Common.{subst, arith, Option, Some, None}
use Rattle.std.proofs.lemmas.List.{length-map, length-replicate}
use Rattle.std.proofs.lemmas.Bool.{ltb-true}
use Rattle.std.specs.List.{slice_index}
use mathlib.Core.Logic.{dite}
use native.Mathlib.Decide.{ℕ_discrete, dec_le}
use Rattle.lb_rebuild_core.specs.Gate.{GateId}
use Rattle.lb_rebuild_core.specs.SlotsHistory as slots
use Rattle.lb_rebuild_core.specs.SlotsHistory.{past_of, newest, served}
use Rattle.lb_rebuild_core.specs.SlotsCalls.{at_slot}
use Rattle.lb_rebuild_core.specs.Stands.{Made, slots_after}
use Rattle.lb_rebuild_core.specs.Values.{SlotValue, SlotsValue}
use Rattle.lb_rebuild_core.proofs.SlotsSteps.{length-after}
use Rattle.lb_rebuild_core.proofs.Pasts.{not-below, newest-past}
use Rattle.lb_rebuild_core.proofs.Telling.{bounded}
use Rattle.lb_rebuild_core.specs.GroupHistory.{History, slot_events}
use Rattle.lb_rebuild_core.specs.GroupStates.{GroupValue, Stands, IsFounded}
use Rattle.lb_rebuild.specs.Watched.{words_of}
use Rattle.lb_rebuild.proofs.Words.{generations, served_there}

-- the first k words are as they are to be, and the others are 0
pub record Shown (target words : List ℕ) (k : ℕ) : Type 0 where
  pub long : length words ≡ length target
  pub done : (j : ℕ) → j < k → slice_index words j ≡ slice_index target j
  pub left : (j : ℕ) → k ≤ j → slice_index words j ≡ 0

zero_at : (n j : ℕ) → slice_index (replicate n 0) j ≡ 0
zero_at zero j = refl
zero_at (suc n) zero = refl
zero_at (suc n) (suc j) = zero_at n j

pub shown_none : (target words : List ℕ) (n : ℕ) → words ≡ replicate n 0 → length target ≡ n → Shown target words 0
shown_none target words n is long = record {
  long = ap (λ (l : List ℕ). length l) is ∙ length-replicate n 0 ∙ sym long;
  done = λ j below. absurd (omega arith);
  left = λ j _. ap (λ (l : List ℕ). slice_index l j) is ∙ zero_at n j;
}

pub shown_more : (target words after : List ℕ) (k g : ℕ) → Shown target words k → k < length target → g ≡ slice_index target k
    → after ≡ set words k (max (slice_index words k) g) → Shown target after (k + 1)
shown_more target words after k g s below is raised =
    let none = s.left k (omega arith) in
    let most : max (slice_index words k) g ≡ slice_index target k = omega (arith, none, is) in
    let now : after ≡ set words k (slice_index target k) = raised ∙ ap (λ (m : ℕ). set words k m) most in
    let inside : k < length words = omega (arith, s.long, below) in
    record {
      long = ap (λ (l : List ℕ). length l) now ∙ length-set words k (slice_index target k) ∙ s.long;
      done = λ j at.
          ap (λ (l : List ℕ). slice_index l j) now
          ∙ dite (ℕ_discrete j k)
          (λ e. subst (λ (m : ℕ). slice_index (set words k (slice_index target k)) m ≡ slice_index target m) (sym e)
          (get_or-set_same words k (slice_index target k) 0 inside))
          (λ ne. get_or-set_other words k j (slice_index target k) 0 ne ∙ s.done j (omega (arith, at, ne)));
      left = λ j past.
          ap (λ (l : List ℕ). slice_index l j) now ∙ get_or-set_other words k j (slice_index target k) 0 (λ e. omega (arith, e, past))
          ∙ s.left j (omega (arith, past));
    }

pub shown_all : (target words : List ℕ) (k : ℕ) → Shown target words k → length target ≤ k → words ≡ target
shown_all target words k s all = ext_get_or 0 words target s.long (λ j at. s.done j (omega (arith, at, s.long, all)))

module _ {C : Type 0} where
  count_is : {made : Made C} {e : History} {v : GroupValue C} → Stands made e v → length v.group.slots ≡ length made.configs
  count_is {made} {e} s = ap (λ (x : SlotsValue C). length x.slots) s.group.shows ∙ length-after made.gate 0 made.configs (slot_events e)

  -- how many slots a group may have
  pub few_slots : {v : GroupValue C} → IsFounded v → length v.group.slots < 18446744073709551616
  few_slots p = let count = count_is p.1.1 in let few = p.1.1.few in omega (arith, count, few)

  -- what a slot that is there, or is not there, is answered to serve
  pub beyond_slots : {v : GroupValue C} {o : Option ℕ} {slot : ℕ} → IsFounded v
      → ((made : Made C) (e : History) → Stands made e v → o ≡ at_slot made slot (served (past_of slot (slot_events e)))) → o ≡ None
      → length v.group.slots ≤ slot
  beyond_slots {v} {o} {slot} p tells none =
      let made = p.0 in
      let count = count_is p.1.1 in
      elim (nat_lt slot (length made.configs)) as (λ b. nat_lt slot (length made.configs) ≡ b
      → None ≡ cond b (Some (served (past_of slot (slot_events p.1.0)))) None → length v.group.slots ≤ slot) [
        | true ↦ λ b e. absurd (cc)
        | false ↦ λ b e. let out = not-below slot (length made.configs) b in omega (arith, count, out)
      ] refl (sym none ∙ tells made p.1.0 p.1.1)

  pub slot_serves : {v : GroupValue C} {o : Option ℕ} {slot g : ℕ} → IsFounded v
      → ((made : Made C) (e : History) → Stands made e v → o ≡ at_slot made slot (served (past_of slot (slot_events e)))) → o ≡ Some g
      → (slot < length v.group.slots) × (slice_index (words_of v.group) (slot + 1) ≡ g) × (g ≤ v.group.newest)
  slot_serves {v} {o} {slot} {g} p tells some_ =
      let made = p.0 in
      let h : slots.History = slot_events p.1.0 in
      let s = p.1.1 in
      let count = count_is s in
      elim (nat_lt slot (length made.configs)) as (λ b. nat_lt slot (length made.configs) ≡ b
      → Some g ≡ cond b (Some (served (past_of slot h))) None
      → (slot < length v.group.slots) × (slice_index (words_of v.group) (slot + 1) ≡ g) × (g ≤ v.group.newest)) [
        | true ↦ λ b e.
            let below : slot < length made.configs = ltb-true slot (length made.configs) b in
            let is : g ≡ served (past_of slot h) = cc in
            let here = served_there made.gate 0 slot slot made.configs h (omega arith) below in
            let limit = bounded (past_of slot h) in
            let past_newest : newest (past_of slot h) ≡ newest h = newest-past slot h in
            let newest_is : v.group.newest ≡ newest h = ap (λ (x : SlotsValue C). x.newest) s.group.shows in (
              omega (arith, count, below),
              subst (λ (k : ℕ). slice_index (words_of v.group) k ≡ g) (sym (add-one slot))
                  (ap (λ (x : SlotsValue C). slice_index (generations x.slots) slot) s.group.shows ∙ here.0 ∙ sym is),
              omega (arith, is, limit, past_newest, newest_is),
            )
        | false ↦ λ b e. absurd (cc)
      ] refl (sym some_ ∙ tells made p.1.0 s)

  -- one word for the newest generation, and one for each slot
  pub words_long : (v : SlotsValue C) → length (words_of v) ≡ length v.slots + 1
  words_long v = let same = length-map v.slots (λ (x : SlotValue C). x.serving.generation) in omega (arith, same)

  pub newest_told : {v : GroupValue C} {n : ℕ} → IsFounded v
      → ((made : Made C) (e : History) → Stands made e v → n ≡ newest (slot_events e)) → n ≡ v.group.newest
  newest_told p tells = tells p.0 p.1.0 p.1.1 ∙ sym (ap (λ (x : SlotsValue C). x.newest) p.1.1.group.shows)
