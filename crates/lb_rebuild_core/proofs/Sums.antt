-- What each event adds to a count of the whole group it adds to the count of its own slot.
use Rattle.std.proofs.Common.{arith, ◌≡◌, ◌<◌, ◌≤◌, ◌+◌, ◌∙◌, ℕ, zero, suc, List, [], ◌∷◌, refl, sym, ap, subst}
use mathlib.Core.Logic.{dite}
use native.Mathlib.Decide.{ℕ_discrete}
use Rattle.lb_select_base.specs.Backends.{Member}
use Rattle.lb_rebuild_core.specs.SlotsHistory.{SlotEvent, Granted, Failed, Destroyed, SlotsEvent, Scheduled, Cancelled, At, History}
use Rattle.lb_rebuild_core.specs.SlotsHistory.{past_of, is_extra, extra, IsSlotsHistory}
use Rattle.lb_rebuild_core.specs.Laws.{number, grants, endings, extras_from, IsWithin, SlotsAccount}
use Rattle.lb_rebuild_core.proofs.Pasts.{past-same, past-other}
use Rattle.lb_rebuild_core.proofs.Ledger.{accounted}

-- a count that starts at 0, and to which events at slots alone add
record IsCount (f : History → ℕ) (gain : SlotEvent → ℕ) : Type 0 where
  pub starts : f [] ≡ 0
  pub scheduled : (ms : List Member) (now : ℕ) (p : History) → f (Scheduled ms now ∷ p) ≡ f p
  pub cancelled : (p : History) → f (Cancelled ∷ p) ≡ f p
  pub adds : (i : ℕ) (e : SlotEvent) (p : History) → f (At i e ∷ p) ≡ f p + gain e

module _ (f : History → ℕ) (gain : SlotEvent → ℕ) (is : IsCount f gain) where
  -- the count in n slots from the place k on
  abbrev sum_from : ℕ → ℕ → History → ℕ
  sum_from k zero h = 0
  sum_from k (suc n) h = f (past_of k h) + sum_from (k + 1) n h

  none : (k n : ℕ) → sum_from k n [] ≡ 0
  none k zero = refl
  none k (suc n) = omega (arith, is.starts, none (k + 1) n)

  for_all : (k n : ℕ) (e : SlotsEvent) (h : History) → ((j : ℕ) → f (past_of j (e ∷ h)) ≡ f (past_of j h))
      → sum_from k n (e ∷ h) ≡ sum_from k n h
  for_all k zero e h same = refl
  for_all k (suc n) e h same = omega (arith, same k, for_all (k + 1) n e h same)

  above : (k n i : ℕ) (e : SlotEvent) (h : History) → i < k → sum_from k n (At i e ∷ h) ≡ sum_from k n h
  above k zero i e h low = refl
  above k (suc n) i e h low =
      let one : f (past_of k (At i e ∷ h)) ≡ f (past_of k h) = ap f (past-other k i e h (λ at. omega arith)) in
      let rest : sum_from (k + 1) n (At i e ∷ h) ≡ sum_from (k + 1) n h = above (k + 1) n i e h (omega arith) in
      omega (arith, one, rest)

  at_slot : (k n i : ℕ) (e : SlotEvent) (h : History) → k ≤ i → i < k + n → sum_from k n (At i e ∷ h) ≡ sum_from k n h + gain e
  at_slot k zero i e h low high = absurd (omega arith)
  at_slot k (suc n) i e h low high =
      dite (ℕ_discrete i k)
      (λ at.
      let past : past_of k (At i e ∷ h) ≡ At i e ∷ past_of k h = subst (λ (m : ℕ). past_of k (At m e ∷ h) ≡ At m e ∷ past_of k h) (sym at)
      (past-same k e h) in
      let one : f (past_of k (At i e ∷ h)) ≡ f (past_of k h) + gain e = ap f past ∙ is.adds i e (past_of k h) in
      let rest : sum_from (k + 1) n (At i e ∷ h) ≡ sum_from (k + 1) n h = above (k + 1) n i e h (omega arith) in
      omega (arith, one, rest))
      (λ apart.
      let one : f (past_of k (At i e ∷ h)) ≡ f (past_of k h) = ap f (past-other k i e h apart) in
      let rest : sum_from (k + 1) n (At i e ∷ h) ≡ sum_from (k + 1) n h + gain e = at_slot (k + 1) n i e h (omega arith) (omega arith) in
      omega (arith, one, rest))

  whole : (n : ℕ) (h : History) → IsWithin n h → f h ≡ sum_from 0 n h
  whole n [] w = is.starts ∙ sym (none 0 n)
  whole n (Scheduled ms now ∷ h) w = is.scheduled ms now h ∙ whole n h w
      ∙ sym (for_all 0 n (Scheduled ms now) h (λ j. is.scheduled ms now (past_of j h)))
  whole n (Cancelled ∷ h) w = is.cancelled h ∙ whole n h w ∙ sym (for_all 0 n Cancelled h (λ j. is.cancelled (past_of j h)))
  whole n (At i e ∷ h) w = is.adds i e h ∙ ap (λ (m : ℕ). m + gain e) (whole n h w.1)
      ∙ sym (at_slot 0 n i e h (omega arith) (omega (arith, w.0)))

granted_gain : SlotEvent → ℕ
granted_gain (Granted now) = 1
granted_gain e = 0

ended_gain : SlotEvent → ℕ
ended_gain (Failed now ms) = 1
ended_gain Destroyed = 1
ended_gain e = 0

grants_add : (i : ℕ) (e : SlotEvent) (p : History) → grants (At i e ∷ p) ≡ grants p + granted_gain e
unfolding granted_gain
grants_add i (Granted now) p = refl
grants_add i e p = omega arith

endings_add : (i : ℕ) (e : SlotEvent) (p : History) → endings (At i e ∷ p) ≡ endings p + ended_gain e
unfolding ended_gain
endings_add i (Failed now ms) p = refl
endings_add i Destroyed p = refl
endings_add i e p = omega arith

grants_count : IsCount grants granted_gain
grants_count = record { starts = refl; scheduled = λ ms now p. refl; cancelled = λ p. refl; adds = grants_add }

endings_count : IsCount endings ended_gain
endings_count = record { starts = refl; scheduled = λ ms now p. refl; cancelled = λ p. refl; adds = endings_add }

each-slot : (k n : ℕ) (h : History) → IsSlotsHistory h
    → sum_from grants granted_gain grants_count k n h ≡ sum_from endings ended_gain endings_count k n h + extras_from k n h
each-slot k zero h all = refl
each-slot k (suc n) h all =
    let one : grants (past_of k h) ≡ endings (past_of k h) + number (is_extra (extra (past_of k h))) = accounted (past_of k h) (all k) in
    let rest = each-slot (k + 1) n h all in
    omega (arith, one, rest)

pub slots-account : (n : ℕ) (h : History) → IsSlotsHistory h → IsWithin n h → SlotsAccount n h
slots-account n h all within =
    let granted = whole grants granted_gain grants_count n h within in
    let ended = whole endings ended_gain endings_count n h within in
    let sums = each-slot 0 n h all in
    omega (arith, granted, ended, sums)
