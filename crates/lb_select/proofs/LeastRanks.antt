-- Candidates by least connections: the place of a backend in the order is the number of those before it.
use Rattle.std.specs.Prelude.{◌≡◌, ℕ, zero, suc, ◌+◌, ◌*◌, ◌<◌, ◌≤◌, ◌==◌, Bool, true, false, List, [], ◌∷◌, ◌++◌, map, length, get_or}
use Rattle.std.specs.Prelude.{Some, cond, Contains, count_by, refl}
use Rattle.std.proofs.Common.{arith, sym, ap, subst, ◌∙◌, ⊎_elim, Less, Equal, Greater, eq-eqb}
use Rattle.std.specs.List.{filter, slice_get, AllZip}
use Rattle.std.specs.List.Sorted.{IsStrictlySortedBy, IsSortedBy}
use Rattle.std.specs.Cmp.{nat_cmp_is}
use Rattle.std.specs.Ordering.{nat_cmp, ordering_then, ordering_reverse, is_lt}
use Rattle.std.proofs.lemmas.Bool.{cases_order}
use Rattle.std.proofs.lemmas.Cmp.{tied_itself}
use Rattle.std.proofs.lemmas.List.Sorted.{sorted_far, length_permutation, sum_by-IsPermutation, Contains-permutation, IsPermutation-sym}
use Rattle.std.proofs.lemmas.List.{take_all}
use Rattle.std.proofs.lemmas.List.Sums.{sum_by-cons}
use Rattle.std.proofs.lemmas.Option.{get_or_from_slice_get, same_Some, slice_get_within}
use Rattle.std.proofs.lemmas.Slice.Zip.{AllZip-long}
use Rattle.lb_select_base.specs.Backends.{Member, member_cmp}
use Rattle.lb_select_base.specs.Draws.{Draw, load}
use Rattle.lb_select_base.proofs.Lists.{append-nil}
use Rattle.lb_select.specs.LeastLoads.{weighs, load_cmp, IsLeastCandidate, IsLeastWalk}
use Rattle.lb_select.specs.Readings.{reading_cmp, IsReading, IsArranged, IsLeastRest}
use Rattle.lb_select.specs.declared.reading.Reading.{Reading}
use Rattle.lb_select.proofs.LeastOrder.{reading_order, apart_less}
use Rattle.lb_select.proofs.Shares.{count_zip, below_at}
use Rattle.lb_select.proofs.WeightLemmas.{member_cmp_total, element_at}

-- where the elements before a place pass a test, and those from it on do not, as many pass as the place says
count_split :
    {X : Type 0} (f : X → Bool) (d : X) (xs : List X) (k : ℕ) → k ≤ length xs
    → ((j : ℕ) → j < k → f (get_or xs j d) ≡ true)
    → ((j : ℕ) → k ≤ j → j < length xs → f (get_or xs j d) ≡ false)
    → count_by f xs ≡ k
count_split f d [] k within before after = omega (arith, within)
count_split f d (x ∷ xs) zero within before after =
    let here = ap {B = ℕ} (λ b. cond b 1 0) (after 0 (omega arith) (omega arith)) in
    let rest = count_split f d xs zero (omega arith) (λ j h. absurd (omega (arith, h)))
    (λ j h l. after (suc j) (omega arith) (omega (arith, l))) in
    sum_by-cons (λ y. cond (f y) 1 0) x xs ∙ omega (arith, here, rest)
count_split f d (x ∷ xs) (suc k) within before after =
    let here = ap {B = ℕ} (λ b. cond b 1 0) (before 0 (omega arith)) in
    let rest = count_split f d xs k (omega (arith, within)) (λ j h. before (suc j) (omega (arith, h)))
    (λ j h l. after (suc j) (omega (arith, h)) (omega (arith, l))) in
    sum_by-cons (λ y. cond (f y) 1 0) x xs ∙ omega (arith, here, rest)

-- an element that passes is counted
count_one : {X : Type 0} (f : X → Bool) (d : X) (xs : List X) (k : ℕ) → k < length xs → f (get_or xs k d) ≡ true → 1 ≤ count_by f xs
count_one f d [] k within e = absurd (omega (arith, within))
count_one f d (x ∷ xs) zero within e =
    omega (arith, sum_by-cons (λ y. cond (f y) 1 0) x xs, ap {B = ℕ} (λ b. cond b 1 0) e)
count_one f d (x ∷ xs) (suc k) within e =
    omega (arith, sum_by-cons (λ y. cond (f y) 1 0) x xs, count_one f d xs k (omega (arith, within)) e)

-- and so are two
count_two :
    {X : Type 0} (f : X → Bool) (d : X) (xs : List X) (j k : ℕ) → j < k → k < length xs
    → f (get_or xs j d) ≡ true → f (get_or xs k d) ≡ true → 2 ≤ count_by f xs
count_two f d [] j k less within e h = absurd (omega (arith, within))
count_two f d (x ∷ xs) j zero less within e h = absurd (omega (arith, less))
count_two f d (x ∷ xs) zero (suc k) less within e h =
    omega (
      arith,
      sum_by-cons (λ y. cond (f y) 1 0) x xs,
      ap {B = ℕ} (λ b. cond b 1 0) e,
      count_one f d xs k (omega (arith, within)) h,
    )
count_two f d (x ∷ xs) (suc j) (suc k) less within e h =
    omega (
      arith,
      sum_by-cons (λ y. cond (f y) 1 0) x xs,
      count_two f d xs j k (omega (arith, less)) (omega (arith, within)) e h,
    )

-- in the order each place has exactly those before it that are less
rank_at :
    (order : List Reading) (k : ℕ) (r : Reading) → IsSortedBy (λ a b. is_lt (reading_cmp a b)) order
    → ((i : ℕ) → count_by (λ s. s.index == i) order ≤ 1) → slice_get order k ≡ Some r
    → count_by (λ s. is_lt (reading_cmp s r)) order ≡ k
rank_at order k r sorted once at =
    let within = slice_get_within order k r at in
    let here : get_or order k r ≡ r = get_or_from_slice_get order k r r at in
    let far : (i j : ℕ) → i ≤ j → j < length order → is_lt (reading_cmp (get_or order j r) (get_or order i r)) ≡ false
    = λ i j le inside. sorted_far (λ a b. is_lt (reading_cmp a b)) reading_order order sorted i j r le inside in
    count_split (λ s. is_lt (reading_cmp s r)) r order k (omega (arith, within))
    (λ j less.
    apart_less (get_or order j r) r
    (subst (λ x. is_lt (reading_cmp x (get_or order j r)) ≡ false) here (far j k (omega (arith, less)) within))
    (λ tied.
    absurd (omega (
      arith,
      once r.index,
      count_two (λ s. s.index == r.index) r order j k less within (eq-eqb (get_or order j r).index r.index tied)
          (eq-eqb (get_or order k r).index r.index (ap (λ (x : Reading). x.index) here)),
    ))))
    (λ j le inside. subst (λ x. is_lt (reading_cmp (get_or order j r) x) ≡ false) here (far k j le inside))

-- in a sorted set backends compare as their indexes do
index_cmp :
    (ms : List Member) (i j : ℕ) (m n : Member) → IsStrictlySortedBy member_cmp ms → slice_get ms i ≡ Some m → slice_get ms j ≡ Some n
    → member_cmp m n ≡ nat_cmp i j
index_cmp ms i j m n sorted p q =
    ⊎_elim
    (λ same.
    let one : m ≡ n = same_Some m n (sym p ∙ ap (slice_get ms) same ∙ q) in
    ap (member_cmp m) (sym one) ∙ tied_itself member_cmp_total m ∙ nat_cmp_is i j Equal same)
    (λ apart. ⊎_elim
    (λ lt. below_at member_cmp_total ms i j m n sorted p q lt ∙ nat_cmp_is i j Less lt)
    (λ gt.
    member_cmp_total.antisymm m n
    ∙ ap ordering_reverse (below_at member_cmp_total ms j i n m sorted q p gt)
    ∙ nat_cmp_is i j Greater gt)
    apart)
    (cases_order i j)

-- so what is read of them does
pub alike :
    (ms : List Member) → IsStrictlySortedBy member_cmp ms → (m : Member) (r : Reading) → IsReading ms (m, r.load) r
    → (e : Member × ℕ) (s : Reading) → IsReading ms e s → is_lt (reading_cmp s r) ≡ is_lt (load_cmp e (m, r.load))
alike ms sorted m r this e s that =
    let products : nat_cmp (s.load * r.weight) (r.load * s.weight) ≡ nat_cmp (e.1 * m.weight) (r.load * e.0.weight)
    = ap (λ w. nat_cmp (s.load * w) (r.load * s.weight)) this.weight
    ∙ ap (λ l. nat_cmp (l * m.weight) (r.load * s.weight)) that.load
    ∙ ap (λ w. nat_cmp (e.1 * m.weight) (r.load * w)) that.weight in
    let indexes : nat_cmp s.index r.index ≡ member_cmp e.0 m = sym (index_cmp ms s.index r.index e.0 m sorted that.at this.at) in
    ap (λ o. is_lt (ordering_then o (nat_cmp s.index r.index))) products
    ∙ ap (λ o. is_lt (ordering_then (nat_cmp (e.1 * m.weight) (r.load * e.0.weight)) o)) indexes

-- the partner of an element of the second list
partner :
    {A B : Type 0} (R : A → B → Type 0) (xs : List A) (ys : List B) (y : B) → AllZip R xs ys → Contains ys y → (x : A) × Contains xs x
    × R x y
partner R [] [] y h within = absurd (omega (arith, within.1))
partner R [] (v ∷ ys) y h within = absurd h
partner R (u ∷ xs) [] y h within = absurd h
partner {A} {B} R (u ∷ xs) (v ∷ ys) y h (zero, inside, is) =
    let here : v ≡ y = is in (u, (0, omega arith, refl), subst (R u) here h.0)
partner R (u ∷ xs) (v ∷ ys) y h (suc k, inside, is) =
    let (x, (i, within, same), r) = partner R xs ys y h.1 (k, omega (arith, inside), is) in
    (x, (suc i, omega (arith, within), same), r)

-- what is at a place of the order is the candidate of that place
pub candidate_at :
    (may_give : Draw → Type 0) (ms : List Member) (order : List Reading) (k : ℕ) (r : Reading) (c : Member)
    → (p : IsArranged may_give ms order) → slice_get order k ≡ Some r → slice_get ms r.index ≡ Some c
    → IsLeastCandidate p.given.read k c
candidate_at may_give ms order k r c p at is =
    let once : (i : ℕ) → count_by (λ (s : Reading). s.index == i) order ≤ 1
    = λ i. omega (arith, p.given.once i, sum_by-IsPermutation (λ (s : Reading). cond (s.index == i) 1 0) p.readings order p.same) in
    let inside : Contains order r = (k, slice_get_within order k r at, get_or_from_slice_get order k r r at) in
    let given : Contains p.readings r = Contains-permutation order p.readings r (IsPermutation-sym p.readings order p.same) inside in
    let (e, among, tells) = partner (IsReading ms) p.given.read p.readings r p.given.each given in
    let one : e.0 ≡ c = same_Some e.0 c (sym tells.at ∙ is) in
    let this : IsReading ms (c, r.load) r = record { at = is; weight = tells.weight ∙ ap (λ (m : Member). m.weight) one; load = refl } in
    let pair : e ≡ (c, r.load) = ap {A = Member} {B = Member × ℕ} (λ m. (m, e.1)) one
    ∙ ap {A = ℕ} {B = Member × ℕ} (λ l. (c, l)) (sym tells.load) in (
      r.load,
      subst (Contains p.given.read) pair among,
      sym (count_zip (IsReading ms) (λ e. is_lt (load_cmp e (c, r.load))) (λ s. is_lt (reading_cmp s r))
          (alike ms p.ordered c r this) p.given.read p.readings p.given.each)
          ∙ sym (sum_by-IsPermutation (λ s. cond (is_lt (reading_cmp s r)) 1 0) p.readings order p.same)
          ∙ rank_at order k r p.sorted once at,
    )

-- no more candidates come than are in the order
few_candidates :
    (ms : List Member) (order : List Reading) (ds : List Draw) (cs : List Member) (e : Bool)
    → IsLeastRest ms order 0 ds cs e → length cs ≤ length order
few_candidates ms order ds [] e rest = omega arith
few_candidates ms order ds (c ∷ cs) e rest =
    let last = element_at (c ∷ cs) (length cs) (omega arith) in
    let (r, at, is) = rest.candidates (length cs) last.0 last.1 in
    omega (arith, slice_get_within order (0 + length cs) r at)

-- a walk: the loads are read, then the candidates come
pub walk_begins :
    (may_give : Draw → Type 0) (ms : List Member) (order : List Reading) (p : IsArranged may_give ms order) (es : List Draw)
    (cs : List Member) (e : Bool) → IsLeastRest ms order 0 es cs e
    → IsLeastWalk ms (map (λ e. load e.0 e.1) p.given.read ++ es) cs e
walk_begins may_give ms order p es cs e rest = record {
  read = p.given.read;
  whole = p.given.whole ∙ ap (filter weighs) (take_all (length ms) ms (omega arith));
  drawn = ap (λ xs. map (λ (e : Member × ℕ). load e.0 e.1) p.given.read ++ xs) rest.undrawn
      ∙ append-nil (map (λ (e : Member × ℕ). load e.0 e.1) p.given.read);
  candidates = λ k c h.
      let (r, at, is) = rest.candidates k c h in
      let here : 0 + k ≡ k = omega arith in
      candidate_at may_give ms order k r c p (ap (slice_get order) (sym here) ∙ at) is;
  end = λ over.
      omega (
        arith,
        rest.end over,
        few_candidates ms order es cs e rest,
        length_permutation p.readings order p.same,
        AllZip-long (IsReading ms) p.given.read p.readings p.given.each,
      );
}
