-- Partial sums of weights: how they are made, that they do not fall, and that the first one above a place is the one whose
-- interval holds it.
use Rattle.std.specs.Prelude.{◌≡◌, ℕ, zero, suc, ◌+◌, ◌<◌, ◌≤◌, List, [], ◌∷◌, ◌++◌, length, take, refl}
use Rattle.std.proofs.Common.{arith, sym, ap, ◌∙◌, ⊎_elim, length-append}
use Rattle.std.proofs.lemmas.Bool.{cases_lt}
use Rattle.std.proofs.lemmas.List.{get_or_push, get_or_append_left, take-append-le, take_all}
use Rattle.std.proofs.lemmas.List.Sums.{sum_by-cons, sum_by-append}
use Rattle.lb_select_base.specs.Backends.{Member}
use Rattle.lb_select.specs.Weights.{total_weight, HoldsPlace}
use Rattle.lb_select.specs.Sums.{NeverFalls, IsBelowLast, IsPlaceAt, AreSums}

-- the partial sums of the backends do not fall
pub sums_rise : (ms : List Member) (i j : ℕ) → i ≤ j → total_weight (take i ms) ≤ total_weight (take j ms)
sums_rise ms zero j le = omega arith
sums_rise [] (suc i) j le = omega arith
sums_rise (x ∷ xs) (suc i) zero le = absurd (omega arith)
sums_rise (x ∷ xs) (suc i) (suc j) le =
    omega (arith, sum_by-cons (λ c. c.weight) x (take i xs), sum_by-cons (λ c. c.weight) x (take j xs), sums_rise xs i j (omega arith))

-- one backend more
pub total_more : (ms : List Member) (m : Member) → total_weight (ms ++ m ∷ []) ≡ total_weight ms + m.weight
total_more ms m = sum_by-append (λ (c : Member). c.weight) ms (m ∷ []) ∙ omega (arith, sum_by-cons (λ (c : Member). c.weight) m [])

-- a beginning of a list weighs no more than the list
pub part_weighs : (ms : List Member) (m : Member) (rest all : List Member) → ms ++ m ∷ rest ≡ all
    → total_weight ms + m.weight ≤ total_weight all
part_weighs ms m rest all whole =
    omega (
      arith,
      ap total_weight whole,
      sum_by-append (λ (c : Member). c.weight) ms (m ∷ rest),
      sum_by-cons (λ (c : Member). c.weight) m rest,
    )

pub sums_none : AreSums [] []
sums_none = record { long = refl; each = λ i h. absurd (omega arith) }

-- one more sum for one more backend
pub sums_more :
    (ms : List Member) (sums : List ℕ) (m : Member) (s : ℕ) → AreSums ms sums → s ≡ total_weight ms + m.weight
    → AreSums (ms ++ m ∷ []) (sums ++ s ∷ [])
sums_more ms sums m s p is = record {
  long = omega (arith, length-append ms (m ∷ []), length-append sums (s ∷ []), p.long);
  each = λ i h. ⊎_elim
      (λ (earlier : i < length ms).
      get_or_append_left sums (s ∷ []) 0 i (omega (arith, p.long, earlier))
      ∙ p.each i earlier
      ∙ ap total_weight (sym (take-append-le (i + 1) ms (m ∷ []) (omega (arith, earlier)))))
      (λ (last : length ms ≤ i).
      get_or_push sums s 0 i (omega (arith, p.long, last, h, length-append ms (m ∷ [])))
      ∙ is
      ∙ sym (total_more ms m)
      ∙ ap total_weight (sym (take_all (i + 1) (ms ++ m ∷ []) (omega (arith, last, length-append ms (m ∷ []))))))
      (cases_lt i (length ms));
}

-- what a search asks of the sums
pub never_falls : (ms : List Member) (sums : List ℕ) → AreSums ms sums → NeverFalls sums
never_falls ms sums p i j le inside =
    omega (
      arith,
      p.each i (omega (arith, le, inside, p.long)),
      p.each j (omega (arith, inside, p.long)),
      sums_rise ms (i + 1) (j + 1) (omega (arith, le)),
    )

pub below_last : (ms : List Member) (sums : List ℕ) (place : ℕ) → AreSums ms sums → place < total_weight ms → IsBelowLast sums place
below_last [] sums place p below = absurd (omega (arith, below))
below_last (x ∷ xs) sums place p below =
    let ms = x ∷ xs in
    let last = length xs in
    let all : take (last + 1) ms ≡ ms = take_all (last + 1) ms (omega arith) in
    record {
      last = last;
      ends = omega (arith, p.long);
      below = omega (arith, p.each last (omega arith), ap total_weight all, below);
    }

-- what it finds
pub place_held :
    (ms : List Member) (sums : List ℕ) (place index : ℕ) → AreSums ms sums → IsPlaceAt sums place index → HoldsPlace ms place index
place_held ms sums place zero p at =
    record { from = omega arith; below = omega (arith, at.above, p.each 0 (omega (arith, at.inside, p.long))) }
place_held ms sums place (suc i) p at = record {
  from =
      let here : suc i ≡ i + 1 = omega arith in
      omega (
        arith,
        at.before i (omega arith),
        p.each i (omega (arith, at.inside, p.long)),
        ap (λ k. total_weight (take k ms)) here,
      );
  below = omega (arith, at.above, p.each (suc i) (omega (arith, at.inside, p.long)));
}
