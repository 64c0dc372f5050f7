-- A search by halves: what is left of the sums, and how many reads were made and are to come.
use Rattle.std.specs.Prelude.{◌≡◌, ℕ, zero, suc, ◌+◌, ◌-◌, ◌/◌, ◌^◌, ◌<◌, ◌≤◌, List, Some, length, slice_index, slice_get}
use Rattle.std.proofs.Common.{arith, sym, subst, ⊎_elim}
use Rattle.std.proofs.lemmas.Bool.{cases_lt}
use Rattle.std.proofs.Math.Nat.{pow-succ'}
use Rattle.std.proofs.lemmas.Option.{get_or_from_slice_get}
use Rattle.lb_select.specs.Sums.{HasBinaryDigits, NeverFalls, IsBelowLast, IsPlaceAt}

-- of `count` sums those from `start` on, `size` of them, are left after some reads
pub record Halved (sums : List ℕ) (count place start size old now : ℕ) : Type 0 where
  pub some : 0 < size
  pub within : start + size ≤ count
  pub before : (i : ℕ) → i < start → slice_index sums i ≤ place
  pub last : ℕ
  pub ends : last + 1 ≡ start + size
  pub above : place < slice_index sums last
  pub made : ℕ
  pub now_is : now ≡ old + made
  pub few : made + size ≤ count
  pub digits : (k : ℕ) → HasBinaryDigits (size - 1) k → HasBinaryDigits (count - 1) (made + k)

-- at first all are left
pub halved_none : (sums : List ℕ) (count place reads : ℕ) → length sums ≡ count → IsBelowLast sums place
    → Halved sums count place 0 count reads reads
halved_none sums count place reads long below = record {
  some = omega (arith, below.ends);
  within = omega arith;
  before = λ i h. absurd (omega arith);
  last = below.last;
  ends = omega (arith, below.ends);
  above = below.below;
  made = 0;
  now_is = omega arith;
  few = omega arith;
  digits = λ k h. let same : 0 + k ≡ k = omega arith in subst (HasBinaryDigits (count - 1)) (sym same) h;
}

-- half a number has one digit less
one_digit_more : (n k : ℕ) → 0 < n → HasBinaryDigits (n / 2) k → HasBinaryDigits n (suc k)
one_digit_more n k some h = record {
  enough = omega (arith, h.enough, pow-succ' 2 k);
  least = no_fewer n k some h;
}
  where
    no_fewer : (n k : ℕ) → 0 < n → HasBinaryDigits (n / 2) k → (j : ℕ) → n < 2 ^ j → suc k ≤ j
    no_fewer n k some h zero below = absurd (omega (arith, some, below))
    no_fewer n k some h (suc j) below = let k_least = h.least j (omega (arith, below, pow-succ' 2 j)) in omega (arith, k_least)

-- no digits are left of 0
no_digits : HasBinaryDigits 0 0
no_digits = record { enough = omega arith; least = λ j h. omega arith }

-- the digits that are to come, after one more read
digits_left :
    (size count made half : ℕ) → 1 < size → half ≡ size / 2
    → ((k : ℕ) → HasBinaryDigits (size - 1) k → HasBinaryDigits (count - 1) (made + k))
    → (k : ℕ) → HasBinaryDigits (size - half - 1) k → HasBinaryDigits (count - 1) (made + 1 + k)
digits_left size count made half two half_is digits k h =
    let left : size - half - 1 ≡ (size - 1) / 2 = omega (arith, half_is, two) in
    let one_more : HasBinaryDigits (size - 1) (suc k)
    = one_digit_more (size - 1) k (omega (arith, two)) (subst (λ n. HasBinaryDigits n k) left h) in
    let same : made + suc k ≡ made + 1 + k = omega arith in
    subst (HasBinaryDigits (count - 1)) same (digits (suc k) one_more)

-- one read: where the sum before the half is not above the place, the later half is left
halved_above :
    {sums : List ℕ} {count place start size old now : ℕ} (half read next : ℕ)
    → Halved sums count place start size old now → NeverFalls sums → length sums ≡ count → 1 < size → half ≡ size / 2
    → slice_get sums (start + half - 1) ≡ Some read → read ≤ place → next ≡ now + 1
    → Halved sums count place (start + half) (size - half) old next
halved_above {sums} {count} {place} {start} {size} half read next p rising long two half_is got low next_is =
    let middle : slice_index sums (start + half - 1) ≡ read = get_or_from_slice_get sums (start + half - 1) read 0 got in
    record {
      some = omega (arith, half_is, two);
      within = omega (arith, half_is, p.within);
      before = λ i h. omega (
        arith,
        rising i (start + half - 1) (omega (arith, h)) (omega (arith, p.within, half_is, two, long)),
        middle,
        low,
      );
      last = p.last;
      ends = omega (arith, p.ends, half_is);
      above = p.above;
      made = p.made + 1;
      now_is = omega (arith, p.now_is, next_is);
      few = omega (arith, p.few, half_is, two);
      digits = digits_left size count p.made half two half_is p.digits;
    }

-- otherwise the earlier one
halved_below :
    {sums : List ℕ} {count place start size old now : ℕ} (half read next : ℕ)
    → Halved sums count place start size old now → NeverFalls sums → length sums ≡ count → 1 < size → half ≡ size / 2
    → slice_get sums (start + half - 1) ≡ Some read → place < read → next ≡ now + 1
    → Halved sums count place start (size - half) old next
halved_below {sums} {count} {place} {start} {size} half read next p rising long two half_is got high next_is =
    let middle : slice_index sums (start + half - 1) ≡ read = get_or_from_slice_get sums (start + half - 1) read 0 got in
    let rest = start + (size - half) - 1 in
    record {
      some = omega (arith, half_is, two);
      within = omega (arith, half_is, p.within);
      before = p.before;
      last = rest;
      ends = omega (arith, half_is, two);
      above = omega (
        arith,
        rising (start + half - 1) rest (omega (arith, half_is, two)) (omega (arith, p.within, half_is, two, long)),
        middle,
        high,
      );
      made = p.made + 1;
      now_is = omega (arith, p.now_is, next_is);
      few = omega (arith, p.few, half_is, two);
      digits = digits_left size count p.made half two half_is p.digits;
    }

-- so one read goes on by the half or by nothing
pub halved_more :
    {sums : List ℕ} {count place start size old now : ℕ} (half read step next : ℕ)
    → Halved sums count place start size old now → NeverFalls sums → length sums ≡ count → 1 < size → half ≡ size / 2
    → slice_get sums (start + half - 1) ≡ Some read → (read ≤ place → step ≡ half) → (place < read → step ≡ 0) → next ≡ now + 1
    → Halved sums count place (start + step) (size - half) old next
halved_more {sums} {count} {place} {start} {size} {old} half read step next p rising long two half_is got past before next_is =
    let P : ℕ → Type 0 = λ s. Halved sums count place s (size - half) old next in
    ⊎_elim
    (λ (high : place < read).
    let none : step ≡ 0 = before high in
    let same : start ≡ start + step = omega (arith, none) in
    subst P same (halved_below half read next p rising long two half_is got high next_is))
    (λ (low : read ≤ place).
    let all : step ≡ half = past low in
    let same : start + half ≡ start + step = omega (arith, all) in
    subst P same (halved_above half read next p rising long two half_is got low next_is))
    (cases_lt place read)

-- one is left: it is the first above the place
pub halved_found :
    {sums : List ℕ} {count place start size old now : ℕ}
    → Halved sums count place start size old now → length sums ≡ count → size ≤ 1 → IsPlaceAt sums place start
halved_found {sums} {count} {place} {start} p long one =
    let last_is : p.last ≡ start = omega (arith, p.ends, p.some, one) in
    record {
      inside = omega (arith, p.within, p.some, long);
      above = subst (λ i. place < slice_index sums i) last_is p.above;
      before = p.before;
    }

-- and as many reads were made as the last index has digits
pub halved_reads :
    {sums : List ℕ} {count place start size old now : ℕ}
    → Halved sums count place start size old now → size ≤ 1 → (k : ℕ) × HasBinaryDigits (count - 1) k × (now ≡ old + k)
halved_reads {sums} {count} {place} {start} {size} p one =
    let left : 0 ≡ size - 1 = omega (arith, one) in
    let all : HasBinaryDigits (count - 1) (p.made + 0) = p.digits 0 (subst (λ n. HasBinaryDigits n 0) left no_digits) in
    (p.made + 0, all, omega (arith, p.now_is))
