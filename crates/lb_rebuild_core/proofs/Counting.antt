-- Sums over the slots of a group, before and after an event at one of them.
use Rattle.std.proofs.Common.{arith, ◌≡◌, ◌≤◌, ◌<◌, ◌+◌, ℕ, zero, suc, true, false, nat_lt, ◌∷◌, refl, sym, ap, subst}
use Rattle.std.proofs.lemmas.Bool.{ltb-true}
use mathlib.Core.Logic.{dite}
use native.Mathlib.Decide.{ℕ_discrete}
use Rattle.lb_rebuild_core.specs.SlotsHistory.{SlotEvent, SlotsEvent, At, History, past_of}
use Rattle.lb_rebuild_core.proofs.Pasts.{past-same, past-other, not-below}
use Rattle.lb_rebuild_core.specs.GroupHistory.{over_slots}

module _ (f : History → ℕ) where
  pub sums-same : (a k : ℕ) (x : SlotsEvent) (h : History) → ((j : ℕ) → f (past_of j (x ∷ h)) ≡ f (past_of j h))
      → over_slots f a k (x ∷ h) ≡ over_slots f a k h
  sums-same a zero x h same = refl
  sums-same a (suc k) x h same = omega (arith, same a, sums-same (a + 1) k x h same)

  sums-below : (a k i : ℕ) (x : SlotEvent) (h : History) → i < a → over_slots f a k (At i x ∷ h) ≡ over_slots f a k h
  sums-below a zero i x h low = refl
  sums-below a (suc k) i x h low =
      let first : f (past_of a (At i x ∷ h)) ≡ f (past_of a h) = ap f (past-other a i x h (λ at. omega arith)) in
      let rest : over_slots f (a + 1) k (At i x ∷ h) ≡ over_slots f (a + 1) k h = sums-below (a + 1) k i x h (omega arith) in
      omega (arith, first, rest)

  pub sums-beyond : (a k i : ℕ) (x : SlotEvent) (h : History) → a + k ≤ i → over_slots f a k (At i x ∷ h) ≡ over_slots f a k h
  sums-beyond a zero i x h high = refl
  sums-beyond a (suc k) i x h high =
      let first : f (past_of a (At i x ∷ h)) ≡ f (past_of a h) = ap f (past-other a i x h (λ at. omega arith)) in
      let rest : over_slots f (a + 1) k (At i x ∷ h) ≡ over_slots f (a + 1) k h = sums-beyond (a + 1) k i x h (omega arith) in
      omega (arith, first, rest)

  pub sums-at : (a k i : ℕ) (x : SlotEvent) (h : History) → a ≤ i → i < a + k
      → over_slots f a k (At i x ∷ h) + f (past_of i h) ≡ over_slots f a k h + f (At i x ∷ past_of i h)
  sums-at a zero i x h low high = absurd (omega arith)
  sums-at a (suc k) i x h low high =
      dite (ℕ_discrete i a)
      (λ at.
      let first : f (past_of a (At i x ∷ h)) ≡ f (At i x ∷ past_of i h) =
      subst (λ (m : ℕ). f (past_of m (At i x ∷ h)) ≡ f (At i x ∷ past_of i h)) at (ap f (past-same i x h)) in
      let before : f (past_of a h) ≡ f (past_of i h) = ap (λ (m : ℕ). f (past_of m h)) (sym at) in
      let rest : over_slots f (a + 1) k (At i x ∷ h) ≡ over_slots f (a + 1) k h = sums-below (a + 1) k i x h (omega arith) in
      omega (arith, first, before, rest))
      (λ apart.
      let first : f (past_of a (At i x ∷ h)) ≡ f (past_of a h) = ap f (past-other a i x h apart) in
      let rest = sums-at (a + 1) k i x h (omega arith) (omega arith) in
      omega (arith, first, rest))

  pub sums-few : (a k : ℕ) (h : History) → ((j : ℕ) → f (past_of j h) ≤ 1) → over_slots f a k h ≤ k
  sums-few a zero h few = omega arith
  sums-few a (suc k) h few = omega (arith, few a, sums-few (a + 1) k h few)

  pub sums-some : (a k i : ℕ) (h : History) → a ≤ i → i < a + k → f (past_of i h) ≤ over_slots f a k h
  sums-some a zero i h low high = absurd (omega arith)
  sums-some a (suc k) i h low high =
      dite (ℕ_discrete i a)
      (λ at. let here : f (past_of i h) ≡ f (past_of a h) = ap (λ (m : ℕ). f (past_of m h)) at in omega (arith, here))
      (λ apart. let rest = sums-some (a + 1) k i h (omega arith) (omega arith) in omega (arith, rest))

  -- an event that a slot's number does not see
  pub sums-quiet : (k i : ℕ) (x : SlotEvent) (h : History) → f (At i x ∷ past_of i h) ≡ f (past_of i h)
      → over_slots f 0 k (At i x ∷ h) ≡ over_slots f 0 k h
  sums-quiet k i x h same =
      elim (nat_lt i k) as (λ b. nat_lt i k ≡ b → over_slots f 0 k (At i x ∷ h) ≡ over_slots f 0 k h) [
        | true ↦ λ e. let few : i < k = ltb-true i k e in let all = sums-at 0 k i x h (omega arith) (omega arith)
            in omega (arith, all, same)
        | false ↦ λ e. let many : k ≤ i = not-below i k e in sums-beyond 0 k i x h (omega arith)
      ] refl
