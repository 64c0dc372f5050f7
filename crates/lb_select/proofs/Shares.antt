-- Exact shares and full coverage. Both count how many of consecutive words fall, modulo a number, into an interval.
use Rattle.std.specs.Prelude.{◌≡◌, ℕ, zero, suc, ◌+◌, ◌-◌, ◌%◌, ◌<◌, ◌≤◌, Bool, true, false, ◌&&◌, List, [], ◌∷◌, length, take, Some, cond}
use Rattle.std.specs.Prelude.{Contains, count_by, refl}
use Rattle.std.proofs.Common.{arith, sym, ap, subst, ◌∙◌, ◌⊎◌, inl, inr, ⊎_elim, leb, ltb, is_eq, Ordering, Less, mod-lt, mod-eq_of_lt}
use Rattle.std.proofs.Common.{true≢false}
use Rattle.std.proofs.Math.Nat.{add-mod_right}
use Rattle.std.specs.List.{AllByRecursion as Each, AllZip, slice_get}
use Rattle.std.specs.List.Sorted.{IsStrictlySortedBy}
use Rattle.std.specs.Cmp.{IsTotalOrder}
use Rattle.std.specs.Ordering.{ordering_reverse}
use Rattle.std.proofs.lemmas.Bool.{cases_lt, cases_order}
use Rattle.std.proofs.lemmas.Bool.Decides.{nat_tests}
use Rattle.std.proofs.lemmas.Cmp.{tied_itself}
use Rattle.std.proofs.lemmas.List.Sums.{sum_by-cons, sum_by_more, sum_by-take-le}
use Rattle.std.proofs.lemmas.Option.{slice_get-get_or, get_or_from_slice_get, same_Some, none-some, slice_get_within}
use Rattle.lb_select_base.specs.Backends.{Member, member_cmp, same_member}
use Rattle.lb_select.specs.Weights.{total_weight, HoldsPlace, IsFirstChoice, IsFallback, AreCandidates}
use Rattle.rand_core.specs.Stream.{Stream}
use Rattle.lb_select_base.specs.Draws.{CoreGives}
use Rattle.lb_select.specs.Shares.{words_from, AreExactShares, VisitsAll, TicketsAreConsecutive}
use Rattle.lb_select.proofs.Summing.{sums_rise}
use Rattle.lb_select.proofs.WeightLemmas.{member_cmp_total, smaller_count, some_member, first_at, fallback_at}

-- consecutive words that pass a test
module _ (f : ℕ → Bool) where
  -- one more word at the front
  count_first : (w n : ℕ) → count_by f (words_from w (suc n)) ≡ cond (f w) 1 0 + count_by f (words_from (w + 1) n)
  count_first w n = sum_by-cons (λ x. cond (f x) 1 0) w (words_from (w + 1) n)

  -- one more word at the end
  count_last : (w n : ℕ) → count_by f (words_from w (suc n)) ≡ count_by f (words_from w n) + cond (f (w + n)) 1 0
  count_last w zero =
      let here : w ≡ w + 0 = omega arith in
      count_first w 0 ∙ omega (arith, ap {B = ℕ} (λ x. cond (f x) 1 0) here)
  count_last w (suc n) =
      let here : w + 1 + n ≡ w + suc n = omega arith in
      omega (arith, count_first w (suc n), count_first w n, count_last (w + 1) n, ap {B = ℕ} (λ x. cond (f x) 1 0) here)

  -- where the test repeats after n words, n words pass it as often from any word on
  pub count_from_any : (n : ℕ) → ((w : ℕ) → f (w + n) ≡ f w) → (w : ℕ) → count_by f (words_from w n) ≡ count_by f (words_from 0 n)
  count_from_any n repeats zero = refl
  count_from_any n repeats (suc w) =
      let next : suc w ≡ w + 1 = omega arith in
      ap (λ x. count_by f (words_from x n)) next
      ∙ omega (arith, count_first w n, count_last w n, ap {B = ℕ} (λ b. cond b 1 0) (repeats w))
      ∙ count_from_any n repeats w

-- tests that agree on the words count alike
count_alike :
    (f g : ℕ → Bool) (w n : ℕ) → ((x : ℕ) → x < w + n → f x ≡ g x)
    → count_by f (words_from w n) ≡ count_by g (words_from w n)
count_alike f g w zero same = refl
count_alike f g w (suc n) same =
    let here = same w (omega arith) in
    let rest = count_alike f g (w + 1) n (λ x h. same x (omega arith)) in
    omega (arith, count_first f w n, count_first g w n, ap {B = ℕ} (λ b. cond b 1 0) here, rest)

-- whether a place is in an interval
abbrev in_interval : ℕ → ℕ → ℕ → Bool
in_interval low high x = leb low x && ltb x high

is_inside : (low high x : ℕ) → low ≤ x → x < high → in_interval low high x ≡ true
is_inside low high x a b = grind (arith, nat_tests)

is_before : (low high x : ℕ) → x < low → in_interval low high x ≡ false
is_before low high x a = grind (arith, nat_tests)

is_after : (low high x : ℕ) → high ≤ x → in_interval low high x ≡ false
is_after low high x a = grind (arith, nat_tests)

-- the part of an interval that is below n
below_more : (low high n : ℕ) → low ≤ high → (n - low) - (n - high) + cond (in_interval low high n) 1 0 ≡ (suc n - low) - (suc n - high)
below_more low high n le =
    ⊎_elim
    (λ before. omega (arith, ap {B = ℕ} (λ b. cond b 1 0) (is_before low high n before)))
    (λ from. ⊎_elim
    (λ inside. omega (arith, ap {B = ℕ} (λ b. cond b 1 0) (is_inside low high n from inside)))
    (λ after. omega (arith, ap {B = ℕ} (λ b. cond b 1 0) (is_after low high n after)))
    (cases_lt n high))
    (cases_lt n low)

count_below : (low high n : ℕ) → low ≤ high → count_by (in_interval low high) (words_from 0 n) ≡ (n - low) - (n - high)
count_below low high zero le = omega arith
count_below low high (suc n) le =
    let here : 0 + n ≡ n = omega arith in
    count_last (in_interval low high) 0 n
    ∙ omega (arith, count_below low high n le, ap {B = ℕ} (λ x. cond (in_interval low high x) 1 0) here, below_more low high n le)

-- of n consecutive words as many fall into an interval below n, modulo n, as it is long
pub count_in_turn :
    (n low high w : ℕ) → 0 < n → low ≤ high → high ≤ n
    → count_by (λ x. in_interval low high (x % n)) (words_from w n) ≡ high - low
count_in_turn n low high w pos le within =
    count_from_any (λ x. in_interval low high (x % n)) n (λ x. ap (in_interval low high) (add-mod_right x n)) w
    ∙ count_alike (λ x. in_interval low high (x % n)) (in_interval low high) 0 n
    (λ x h. ap (in_interval low high) (mod-eq_of_lt (omega arith)))
    ∙ count_below low high n le
    ∙ omega arith

-- the places of two lists that are related one by one pass tests alike
pub count_zip :
    {A B : Type 0} (R : A → B → Type 0) (f : A → Bool) (g : B → Bool) → ((x : A) (y : B) → R x y → g y ≡ f x)
    → (xs : List A) (ys : List B) → AllZip R xs ys → count_by g ys ≡ count_by f xs
count_zip R f g alike [] [] h = refl
count_zip R f g alike [] (y ∷ ys) h = absurd h
count_zip R f g alike (x ∷ xs) [] h = absurd h
count_zip R f g alike (x ∷ xs) (y ∷ ys) h =
    sum_by-cons (λ z. cond (g z) 1 0) y ys
    ∙ omega (arith, ap {B = ℕ} (λ b. cond b 1 0) (alike x y h.0), count_zip R f g alike xs ys h.1)
    ∙ sym (sum_by-cons (λ z. cond (f z) 1 0) x xs)

module _ {K : Type 0} {R : K → K → Ordering} (total : IsTotalOrder R) where
  above_at : (x : K) (ys : List K) (i : ℕ) (m : K) → Each (λ y. R x y ≡ Less) ys → slice_get ys i ≡ Some m → R x m ≡ Less
  above_at x [] i m h e = absurd (none-some m e)
  above_at x (y ∷ ys) zero m h e = subst (λ z. R x z ≡ Less) (same_Some y m e) h.0
  above_at x (y ∷ ys) (suc i) m h e = above_at x ys i m h.1 e

  -- in a strictly sorted list the element at a lower index is below
  pub below_at :
      (xs : List K) (i j : ℕ) (x y : K) → IsStrictlySortedBy R xs → slice_get xs i ≡ Some x → slice_get xs j ≡ Some y → i < j
      → R x y ≡ Less
  unfolding IsStrictlySortedBy
  below_at [] i j x y s p q lt = absurd (none-some x p)
  below_at (z ∷ zs) i zero x y s p q lt = absurd (omega arith)
  below_at (z ∷ zs) zero (suc j) x y s p q lt =
      let same : z ≡ x = same_Some z x p in
      subst (λ v. R v y ≡ Less) same (above_at z zs j y s.0 q)
  below_at (z ∷ zs) (suc i) (suc j) x y s p q lt = below_at zs i j x y s.1 p q (omega arith)

  -- elements of a strictly sorted list are tied exactly where their indexes are one
  pub tied_at :
      (xs : List K) (i j : ℕ) (x y : K) → IsStrictlySortedBy R xs → slice_get xs i ≡ Some x → slice_get xs j ≡ Some y
      → ((i ≡ j) × (x ≡ y) × (is_eq (R x y) ≡ true)) ⊎ (((i < j) ⊎ (j < i)) × (is_eq (R x y) ≡ false))
  tied_at xs i j x y s p q =
      ⊎_elim
      (λ e.
      let same : x ≡ y = same_Some x y (sym p ∙ ap (slice_get xs) e ∙ q) in
      inl (e, same, ap (λ z. is_eq (R x z)) (sym same) ∙ ap is_eq (tied_itself total x)))
      (λ h. ⊎_elim
      (λ lt. inr (inl lt, ap is_eq (below_at xs i j x y s p q lt)))
      (λ gt. inr (inr gt, ap is_eq (total.antisymm x y ∙ ap ordering_reverse (below_at xs j i y x s q p gt))))
      h)
      (cases_order i j)

-- an element of a list by its index
pub contained : (ms : List Member) (m : Member) → Contains ms m → (i : ℕ) × (slice_get ms i ≡ Some m)
contained ms m (i, within, e) = (i, slice_get-get_or ms i m within ∙ ap Some e)

-- the interval of an index ends where the next begins
interval_is : (ms : List Member) (i : ℕ) (m : Member) → slice_get ms i ≡ Some m
    → total_weight (take (i + 1) ms) ≡ total_weight (take i ms) + m.weight
interval_is ms i m e =
    sum_by_more (λ c. c.weight) ms i m (slice_get_within ms i m e)
    ∙ ap (λ c. total_weight (take i ms) + c.weight) (get_or_from_slice_get ms i m m e)

-- a place is in one interval
pub one_interval : (ms : List Member) (place i j : ℕ) → HoldsPlace ms place i → HoldsPlace ms place j → i ≡ j
one_interval ms place i j h k =
    ⊎_elim
    (λ e. e)
    (λ apart.
    absurd (⊎_elim
    (λ (lt : i < j). omega (arith, sums_rise ms (i + 1) j (omega arith), h.below, k.from))
    (λ (gt : j < i). omega (arith, sums_rise ms (j + 1) i (omega arith), k.below, h.from))
    apart))
    (cases_order i j)

-- a backend is the first choice of a word exactly where its interval holds the place
chosen_inside :
    (ms : List Member) (i : ℕ) (m : Member) → IsStrictlySortedBy member_cmp ms → slice_get ms i ≡ Some m
    → (word : ℕ) (c : Member) → IsFirstChoice ms word c
    → same_member m c ≡ in_interval (total_weight (take i ms)) (total_weight (take (i + 1) ms)) (word % total_weight ms)
chosen_inside ms i m sorted at word c (weighs, j, holds, e) =
    let low = total_weight (take i ms) in
    let high = total_weight (take (i + 1) ms) in
    let place = word % total_weight ms in
    ⊎_elim
    (λ (same, both, tied).
    let here : HoldsPlace ms place i = subst (HoldsPlace ms place) (sym same) holds in
    tied ∙ sym (is_inside low high place here.from here.below))
    (λ (apart, tied).
    tied
    ∙ sym (⊎_elim
    (λ lt. is_after low high place (omega (arith, sums_rise ms (i + 1) j (omega arith), holds.from)))
    (λ gt. is_before low high place (omega (arith, sums_rise ms (j + 1) i (omega arith), holds.below)))
    apart))
    (tied_at member_cmp_total ms i j m c sorted at e)

-- a backend is the fallback of a word exactly where the word leaves its index
fallen_inside :
    (ms : List Member) (i : ℕ) (m : Member) → IsStrictlySortedBy member_cmp ms → slice_get ms i ≡ Some m
    → (word : ℕ) (c : Member) → IsFallback ms word c → same_member m c ≡ in_interval i (i + 1) (word % length ms)
fallen_inside ms i m sorted at word c (weighs, within, rank) =
    let found = contained ms c within in
    let left : found.0 ≡ word % length ms = sym (smaller_count member_cmp_total ms found.0 c sorted found.1) ∙ rank in
    ⊎_elim
    (λ (same, both, tied). tied ∙ sym (is_inside i (i + 1) _ (omega arith) (omega arith)))
    (λ (apart, tied).
    tied
    ∙ sym (⊎_elim
    (λ lt. is_after i (i + 1) _ (omega arith))
    (λ gt. is_before i (i + 1) _ (omega arith))
    apart))
    (tied_at member_cmp_total ms i found.0 m c sorted at found.1)

-- each place below the total is in an interval
place_held : (ms : List Member) (place : ℕ) → place < total_weight ms → (i : ℕ) × HoldsPlace ms place i × (i < length ms)
place_held [] place h = absurd (omega arith)
place_held (x ∷ xs) place h =
    let cons = sum_by-cons (λ (c : Member). c.weight) x xs in
    ⊎_elim
    (λ (here : place < x.weight). (0, record { from = omega arith; below = omega arith }, omega arith))
    (λ (past : x.weight ≤ place).
    let rest = place_held xs (place - x.weight) (omega arith) in
    let next : suc (rest.0) + 1 ≡ suc (rest.0 + 1) = omega arith in
    let low = sum_by-cons (λ (c : Member). c.weight) x (take (rest.0) xs) in
    let high : total_weight (take (suc (rest.0) + 1) (x ∷ xs)) ≡ x.weight + total_weight (take (rest.0 + 1) xs)
    = ap (λ k. total_weight (take k (x ∷ xs))) next ∙ sum_by-cons (λ (c : Member). c.weight) x (take (rest.0 + 1) xs) in
    (suc (rest.0), record { from = omega arith; below = omega arith }, omega arith))
    (cases_lt place x.weight)

-- where each element has a partner, a list has a list of partners
all_partners :
    {A B : Type 0} (R : A → B → Type 0) → ((x : A) → (y : B) × R x y) → (xs : List A) → (ys : List B) × AllZip R xs ys
all_partners R each [] = ([], tt)
all_partners R each (x ∷ xs) =
    let here = each x in
    let rest = all_partners R each xs in
    (here.0 ∷ rest.0, (here.1, rest.1))

-- each word has a first choice, and a fallback
some_choice : (ms : List Member) → 0 < total_weight ms → (word : ℕ) → (m : Member) × IsFirstChoice ms word m
some_choice ms weighs word =
    let held = place_held ms (word % total_weight ms) (mod-lt word weighs) in
    let chosen = first_at ms word held.0 weighs held.1 held.2 in
    (chosen.0, chosen.2)

some_fallback :
    (ms : List Member) → IsStrictlySortedBy member_cmp ms → 0 < total_weight ms → (word : ℕ) → (m : Member) × IsFallback ms word m
some_fallback ms sorted weighs word =
    let chosen = fallback_at ms word (word % length ms) sorted weighs refl in (chosen.0, chosen.2)

-- in a whole turn each backend is the first choice exactly its weight times
pub weights_are_exact : (ms : List Member) → IsStrictlySortedBy member_cmp ms → 0 < total_weight ms → (w : ℕ) → AreExactShares ms w
weights_are_exact ms sorted weighs w = (
  all_partners (IsFirstChoice ms) (some_choice ms weighs) (words_from w (total_weight ms)),
  λ cs chosen m within.
      let place = contained ms m within in
      let low = total_weight (take (place.0) ms) in
      let high = total_weight (take (place.0 + 1) ms) in
      count_zip (IsFirstChoice ms) (λ x. in_interval low high (x % total_weight ms)) (same_member m)
      (chosen_inside ms place.0 m sorted place.1) (words_from w (total_weight ms)) cs chosen
      ∙ count_in_turn (total_weight ms) low high w weighs (sums_rise ms place.0 (place.0 + 1) (omega arith))
      (sum_by-take-le (λ c. c.weight) ms (place.0 + 1))
      ∙ omega (arith, interval_is ms place.0 m place.1),
)

-- an element of the first list, and its partner that passes the test, where one does
partner_found :
    {A B : Type 0} (R : A → B → Type 0) (g : B → Bool) (xs : List A) (ys : List B) → AllZip R xs ys → 0 < count_by g ys
    → (x : A) × (y : B) × R x y × (g y ≡ true) × Contains ys y
partner_found R g [] [] h some = absurd (omega arith)
partner_found R g [] (y ∷ ys) h some = absurd h
partner_found R g (x ∷ xs) [] h some = absurd h
partner_found {A} {B} R g (x ∷ xs) (y ∷ ys) h some = by (g y) refl (partner_found R g xs ys h.1)
  where
    by :
        (b : Bool) → g y ≡ b → (0 < count_by g ys → (u : A) × (v : B) × R u v × (g v ≡ true) × Contains ys v)
        → (u : A) × (v : B) × R u v × (g v ≡ true) × Contains (y ∷ ys) v
    by true e rest = (x, y, h.0, e, (0, omega arith, refl))
    by false e rest =
        let first : cond (g y) 1 0 ≡ 0 = ap {B = ℕ} (λ b. cond b 1 0) e in
        let (u, v, r, passes, (k, within, same)) = rest (omega (arith, some, first, sum_by-cons (λ z. cond (g z) 1 0) y ys)) in
        (u, v, r, passes, (suc k, omega arith, same))

-- each backend is among the fallbacks of as many consecutive words as there are backends
fallen_back :
    (ms : List Member) → IsStrictlySortedBy member_cmp ms → 0 < total_weight ms → (w : ℕ) (cs : List Member)
    → AllZip (IsFallback ms) (words_from w (length ms)) cs → (m : Member) → Contains ms m → Contains cs m
fallen_back ms sorted weighs w cs chosen m within =
    let place = contained ms m within in
    let i = place.0 in
    let inside = slice_get_within ms i m place.1 in
    let once : count_by (same_member m) cs ≡ 1 =
    count_zip (IsFallback ms) (λ x. in_interval i (i + 1) (x % length ms)) (same_member m)
    (fallen_inside ms i m sorted place.1) (words_from w (length ms)) cs chosen
    ∙ count_in_turn (length ms) i (i + 1) w (some_member ms weighs) (omega arith) (omega arith)
    ∙ omega arith in
    let (word, c, falls, same, found) = partner_found (IsFallback ms) (same_member m) (words_from w (length ms)) cs chosen (omega arith) in
    let other = contained ms c falls.1 in
    ⊎_elim
    (λ (index, both, tied). subst (Contains cs) (sym both) found)
    (λ (apart, tied). absurd (true≢false (sym same ∙ tied)))
    (tied_at member_cmp_total ms i other.0 m c sorted place.1 other.1)

-- an element of a list is one of a longer list
contains_more : (c : Member) (cs : List Member) (m : Member) → Contains cs m → Contains (c ∷ cs) m
contains_more c cs m (k, within, same) = (suc k, omega arith, same)

-- among the candidates of a word and of as many more as there are backends is each backend
visited :
    (ms : List Member) → IsStrictlySortedBy member_cmp ms → 0 < total_weight ms → (w : ℕ) (cs : List Member)
    → AreCandidates ms w (words_from (w + 1) (length ms)) cs → (m : Member) → Contains ms m → Contains cs m
visited [] sorted weighs w cs chosen m within = absurd (omega arith)
visited (x ∷ xs) sorted weighs w [] chosen m within = absurd (cc)
visited (x ∷ xs) sorted weighs w (c ∷ cs) chosen m within =
    contains_more c cs m (fallen_back (x ∷ xs) sorted weighs (w + 1) cs chosen.1 m within)

-- the first choice of a word and the fallbacks of as many words after it as there are backends visit every backend
pub all_are_visited : (ms : List Member) → IsStrictlySortedBy member_cmp ms → 0 < total_weight ms → (w : ℕ) → VisitsAll ms w
all_are_visited ms sorted weighs w =
    let first = some_choice ms weighs w in
    let later = all_partners (IsFallback ms) (some_fallback ms sorted weighs) (words_from (w + 1) (length ms)) in
    ((first.0 ∷ later.0, (first.1, later.1)), visited ms sorted weighs w)

-- a counter that does not wrap counts up
pub consecutive :
    {S : Type 0} (tickets : S → ℕ) (stream : S → Stream) (load_of : S → Member → ℕ)
    → TicketsAreConsecutive (CoreGives tickets stream load_of) tickets
consecutive tickets stream load_of s t [] drawn fits = refl
consecutive tickets stream load_of s t (w ∷ []) (u, gave, rest) fits = ap (λ x. x ∷ []) gave.0
consecutive tickets stream load_of s t (w ∷ v ∷ ws) (u, gave, rest) fits =
    let next : tickets u ≡ tickets s + 1 = gave.1 ∙ mod-eq_of_lt (omega arith) in
    let later = consecutive tickets stream load_of u t (v ∷ ws) rest (omega arith) in
    ap (λ x. x ∷ v ∷ ws) gave.0 ∙ ap (λ l. tickets s ∷ l) (later ∙ ap (λ x. words_from x (length (v ∷ ws))) next)
