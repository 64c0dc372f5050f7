-- A whole walk by least connections gives each backend of weight above 0 once, and no other.
use Rattle.std.specs.Prelude.{◌≡◌, ℕ, zero, suc, ◌<◌, ◌≤◌, Bool, true, false, List, [], ◌∷◌, map, length, Some, cond, Contains, count_by}
use Rattle.std.specs.Prelude.{refl}
use Rattle.std.proofs.Common.{arith, sym, ap, subst, ◌∙◌, ⊎_elim, true≢false, is_eq, Less}
use Rattle.std.specs.List.{filter, slice_get, AllZip, AllByRecursion as Each}
use Rattle.std.specs.List.Sorted.{IsStrictlySortedBy}
use Rattle.std.specs.Ordering.{is_lt}
use Rattle.std.proofs.lemmas.Bool.{cases_order}
use Rattle.std.proofs.lemmas.Bool.Decides.{nat_tests}
use Rattle.std.proofs.lemmas.Cmp.{tied_itself}
use Rattle.std.proofs.lemmas.List.Sums.{sum_by-cons, count_by-le-length}
use Rattle.std.proofs.lemmas.Option.{slice_get-get_or, get_or_from_slice_get, same_Some, none-some, slice_get_within}
use Rattle.std.proofs.lemmas.Slice.Zip.{AllZip-long}
use Rattle.lb_select_base.specs.Backends.{Member, member_cmp}
use Rattle.lb_select_base.specs.Draws.{Draw}
use Rattle.lb_select.specs.LeastLoads.{load_cmp, weighs, IsLeastWalk, ComesOnce, LeastVisitsAll}
use Rattle.lb_select.specs.Readings.{reading_cmp, IsReading}
use Rattle.lb_select.specs.declared.reading.Reading.{Reading}
use Rattle.lb_select.proofs.LeastOrder.{reading_order, apart_less}
use Rattle.lb_select.proofs.LeastRanks.{alike}
use Rattle.lb_select.proofs.Shares.{count_zip, contained, tied_at}
use Rattle.lb_select.proofs.WeightLemmas.{member_cmp_total, element_at}

-- whom a filter keeps
filter_keeps : (f : Member → Bool) (ms : List Member) (m : Member) → Contains ms m → f m ≡ true → Contains (filter f ms) m
filter_keeps f [] m (k, within, is) e = absurd (omega (arith, within))
filter_keeps f (x ∷ xs) m (zero, within, is) e =
    let here : x ≡ m = is in
    let kept : f x ≡ true = ap f here ∙ e in
    subst (λ b. Contains (cond b (x ∷ filter f xs) (filter f xs)) m) (sym kept) (0, omega arith, here)
filter_keeps f (x ∷ xs) m (suc k, within, is) e =
    let (i, inside, same) = filter_keeps f xs m (k, omega (arith, within), is) e in
    elim (f x) as (λ b. Contains (cond b (x ∷ filter f xs) (filter f xs)) m) [
      | true ↦ (suc i, omega (arith, inside), same)
      | false ↦ (i, inside, same)
    ]

each_kept : (P : Member → Type 0) (f : Member → Bool) (ms : List Member) → Each P ms → Each P (filter f ms)
each_kept P f [] each = tt
each_kept P f (x ∷ xs) each =
    let rest = each_kept P f xs each.1 in
    elim (f x) as (λ b. Each P (cond b (x ∷ filter f xs) (filter f xs))) [ true ↦ (each.0, rest) | false ↦ rest ]

each_passes : (f : Member → Bool) (ms : List Member) → Each (λ m. f m ≡ true) (filter f ms)
each_passes f [] = tt
each_passes f (x ∷ xs) = by (each_passes f xs) (f x) refl
  where
    by : Each (λ m. f m ≡ true) (filter f xs) → (b : Bool) → f x ≡ b → Each (λ m. f m ≡ true) (cond b (x ∷ filter f xs) (filter f xs))
    by rest true e = (e, rest)
    by rest false e = rest

-- a filter keeps the order
sorted_kept : (f : Member → Bool) (ms : List Member) → IsStrictlySortedBy member_cmp ms → IsStrictlySortedBy member_cmp (filter f ms)
unfolding IsStrictlySortedBy
sorted_kept f [] s = tt
sorted_kept f (x ∷ xs) s =
    let rest = sorted_kept f xs s.1 in
    elim (f x) as (λ b. IsStrictlySortedBy member_cmp (cond b (x ∷ filter f xs) (filter f xs))) [
      | true ↦ (each_kept (λ y. member_cmp x y ≡ Less) f xs s.0, rest)
      | false ↦ rest
    ]

-- tests, one of which passes wherever the other does
step_le : (b c : Bool) → (b ≡ true → c ≡ true) → cond b 1 0 ≤ cond c 1 0
step_le true c h = omega (arith, ap {B = ℕ} (λ x. cond x 1 0) (h refl))
step_le false c h = omega arith

count_le : {X : Type 0} (f g : X → Bool) (xs : List X) → ((x : X) → f x ≡ true → g x ≡ true) → count_by f xs ≤ count_by g xs
count_le f g [] wider = omega arith
count_le f g (x ∷ xs) wider =
    omega (
      arith,
      sum_by-cons (λ y. cond (f y) 1 0) x xs,
      sum_by-cons (λ y. cond (g y) 1 0) x xs,
      step_le (f x) (g x) (wider x),
      count_le f g xs wider,
    )

count_wider :
    {X : Type 0} (f g : X → Bool) (xs : List X) (x : X) → ((y : X) → f y ≡ true → g y ≡ true) → Contains xs x
    → f x ≡ false → g x ≡ true → count_by f xs < count_by g xs
count_wider f g [] x wider (k, within, is) fails passes = absurd (omega (arith, within))
count_wider f g (y ∷ ys) x wider (zero, within, is) fails passes =
    let here : y ≡ x = is in
    omega (
      arith,
      sum_by-cons (λ z. cond (f z) 1 0) y ys,
      sum_by-cons (λ z. cond (g z) 1 0) y ys,
      ap {B = ℕ} (λ b. cond b 1 0) (ap f here ∙ fails),
      ap {B = ℕ} (λ b. cond b 1 0) (ap g here ∙ passes),
      count_le f g ys wider,
    )
count_wider f g (y ∷ ys) x wider (suc k, within, is) fails passes =
    omega (
      arith,
      sum_by-cons (λ z. cond (f z) 1 0) y ys,
      sum_by-cons (λ z. cond (g z) 1 0) y ys,
      step_le (f y) (g y) (wider y),
      count_wider f g ys x wider (k, omega (arith, within), is) fails passes,
    )

-- what comes before
abbrev comes_before : Reading → Reading → Bool
comes_before a b = is_lt (reading_cmp a b)

before_trans : (x y z : Reading) → comes_before x y ≡ true → comes_before y z ≡ true → comes_before x z ≡ true
before_trans x y z p q = by (comes_before x z) refl
  where
    by : (b : Bool) → comes_before x z ≡ b → comes_before x z ≡ true
    by true e = e
    by false e = absurd (true≢false (sym p ∙ reading_order.chain x z y e (reading_order.one_way y z q)))

not_before_itself : (x : Reading) → comes_before x x ≡ false
not_before_itself x = by (comes_before x x) refl
  where
    by : (b : Bool) → comes_before x x ≡ b → comes_before x x ≡ false
    by true e = reading_order.one_way x x e
    by false e = e

rank_below : (rs : List Reading) (a b : Reading) → Contains rs a → comes_before a b ≡ true
    → count_by (λ s. comes_before s a) rs < count_by (λ s. comes_before s b) rs
rank_below rs a b among less =
    count_wider (λ s. comes_before s a) (λ s. comes_before s b) rs a (λ s h. before_trans s a b h less) among (not_before_itself a) less

-- readings of one rank are of one backend
same_rank : (rs : List Reading) (a b : Reading) → Contains rs a → Contains rs b
    → count_by (λ s. comes_before s a) rs ≡ count_by (λ s. comes_before s b) rs → a.index ≡ b.index
same_rank rs a b one other same =
    ⊎_elim
    (λ tied. tied)
    (λ apart. by (comes_before a b) refl (⊎_elim (λ lt. λ e. absurd (omega (arith, lt, e))) (λ gt. λ e. absurd (omega (arith, gt, e)))
    apart))
    (cases_order a.index b.index)
  where
    by : (t : Bool) → comes_before a b ≡ t → (b.index ≡ a.index → ⊥) → a.index ≡ b.index
    by true e differ = absurd (omega (arith, rank_below rs a b one e, same))
    by false e differ = absurd (omega (arith, rank_below rs b a other (apart_less b a e differ), same))

weighs_means : (m : Member) → weighs m ≡ true → 0 < m.weight
weighs_means m h = grind (arith, nat_tests)

weighs_is : (m : Member) → 0 < m.weight → weighs m ≡ true
weighs_is m h = grind (arith, nat_tests)

each_among : (all xs : List Member) → ((m : Member) → Contains xs m → Contains all m) → Each (λ m. Contains all m) xs
each_among all [] inside = tt
each_among all (x ∷ xs) inside =
    (inside x (0, omega arith, refl), each_among all xs (λ m (k, within, is). inside m (suc k, omega (arith, within), is)))

each_at : (P : Member → Type 0) (xs : List Member) (m : Member) → Each P xs → Contains xs m → P m
each_at P [] m each (k, within, is) = absurd (omega (arith, within))
each_at P (x ∷ xs) m each (zero, within, is) = let here : x ≡ m = is in subst P here each.0
each_at P (x ∷ xs) m each (suc k, within, is) = each_at P xs m each.1 (k, omega (arith, within), is)

-- a list of readings for what was read
readings_of :
    (ms : List Member) (read : List (Member × ℕ))
    → Each (λ m. Contains ms m) (map (λ e. e.0) read) → Each (λ m. weighs m ≡ true) (map (λ e. e.0) read)
    → (rs : List Reading) × AllZip (IsReading ms) read rs
readings_of ms [] inside heavy = ([], tt)
readings_of ms (e ∷ read) inside heavy =
    let (i, at) = contained ms e.0 inside.0 in
    let (rs, rest) = readings_of ms read inside.1 heavy.1 in
    let r : Reading = record { index = i; weight = e.0.weight; load = e.1; weighs = weighs_means e.0 heavy.0 } in
    (r ∷ rs, (record { at = at; weight = refl; load = refl }, rest))

partner_of :
    {A B : Type 0} (R : A → B → Type 0) (xs : List A) (ys : List B) (x : A) → AllZip R xs ys → Contains xs x → (y : B) × Contains ys y
    × R x y
partner_of R [] ys x h (k, within, is) = absurd (omega (arith, within))
partner_of R (u ∷ xs) [] x h within = absurd h
partner_of {A} {B} R (u ∷ xs) (v ∷ ys) x h (zero, within, is) =
    let here : u ≡ x = is in
    let P : A → Type 0 = λ z. R z v in
    (v, (0, omega arith, refl), subst P here h.0)
partner_of R (u ∷ xs) (v ∷ ys) x h (suc k, within, is) =
    let (y, (i, inside, same), r) = partner_of R xs ys x h.1 (k, omega (arith, within), is) in
    (y, (suc i, omega (arith, inside), same), r)

-- the entry of a backend
entry_of : (read : List (Member × ℕ)) (m : Member) → Contains (map (λ e. e.0) read) m → (l : ℕ) × Contains read (m, l)
entry_of [] m (k, within, is) = absurd (omega (arith, within))
entry_of (e ∷ read) m (zero, within, is) =
    let here : e.0 ≡ m = is in
    let pair : e ≡ (m, e.1) = ap {A = Member} {B = Member × ℕ} (λ x. (x, e.1)) here in (e.1, (0, omega arith, pair))
entry_of (e ∷ read) m (suc k, within, is) =
    let (l, (i, inside, same)) = entry_of read m (k, omega (arith, within), is) in
    (l, (suc i, omega (arith, inside), same))

member_at : (read : List (Member × ℕ)) (m : Member) (l : ℕ) (k : ℕ) → slice_get read k ≡ Some (m, l)
    → slice_get (map (λ e. e.0) read) k ≡ Some m
member_at [] m l k e = absurd (none-some (m, l) e)
member_at (x ∷ read) m l zero e = ap {A = Member × ℕ} (λ p. Some p.0) (same_Some x (m, l) e)
member_at (x ∷ read) m l (suc k) e = member_at read m l k e

entry_at : (read : List (Member × ℕ)) (e : Member × ℕ) → Contains read e → (k : ℕ) × (slice_get read k ≡ Some e)
entry_at read e (k, within, is) = (k, slice_get-get_or read k e within ∙ ap Some is)

-- each backend was read once
one_load :
    (read : List (Member × ℕ)) (m : Member) (l n : ℕ) → IsStrictlySortedBy member_cmp (map (λ e. e.0) read)
    → Contains read (m, l) → Contains read (m, n) → l ≡ n
one_load read m l n sorted one other =
    let (i, p) = entry_at read (m, l) one in
    let (j, q) = entry_at read (m, n) other in
    ⊎_elim
    (λ (same, both, tied).
    ap {A = Member × ℕ} (λ e. e.1) (same_Some (m, l) (m, n) (sym p ∙ ap (slice_get read) same ∙ q)))
    (λ (apart, tied). absurd (true≢false (sym (ap is_eq (tied_itself member_cmp_total m)) ∙ tied)))
    (tied_at member_cmp_total (map (λ (e : Member × ℕ). e.0) read) i j m m sorted (member_at read m l i p) (member_at read m n j q))

module _ (ms : List Member) (sorted : IsStrictlySortedBy member_cmp ms) (draws : List Draw) (cs : List Member)
    (w : IsLeastWalk ms draws cs true) where
  rs : (rs : List Reading) × AllZip (IsReading ms) w.read rs
  rs =
      let P : List Member → Type 0 = λ xs. Each (λ m. Contains ms m) xs in
      let Q : List Member → Type 0 = λ xs. Each (λ m. weighs m ≡ true) xs in
      readings_of ms w.read
      (subst P (sym w.whole) (each_kept (λ m. Contains ms m) weighs ms (each_among ms ms (λ m h. h))))
      (subst Q (sym w.whole) (each_passes weighs ms))

  -- the reading of an entry, and its rank
  reading_of : (m : Member) (l : ℕ) → Contains w.read (m, l)
      → (r : Reading) × Contains rs.0 r × (slice_get ms r.index ≡ Some m)
      × (count_by (λ s. comes_before s r) rs.0 ≡ count_by (λ e. is_lt (load_cmp e (m, l))) w.read)
  unfolding rs
  reading_of m l among =
      let (r, inside, tells) = partner_of (IsReading ms) w.read rs.0 (m, l) rs.1 among in
      let this : IsReading ms (m, r.load) r = record { at = tells.at; weight = tells.weight; load = refl } in (
        r,
        inside,
        tells.at,
        count_zip (IsReading ms) (λ e. is_lt (load_cmp e (m, r.load))) (λ s. comes_before s r)
            (alike ms sorted m r this) w.read rs.0 rs.1
            ∙ ap (λ n. count_by (λ e. is_lt (load_cmp e (m, n))) w.read) tells.load,
      )

  comes_once : (m : Member) → Contains ms m → 0 < m.weight → ComesOnce cs m
  comes_once m within heavy =
      let kept : Contains (filter weighs ms) m = filter_keeps weighs ms m within (weighs_is m heavy) in
      let P : List Member → Type 0 = λ xs. Contains xs m in
      let (l, among) = entry_of w.read m (subst P (sym w.whole) kept) in
      let (r, inside, at, rank) = reading_of m l among in
      let k = count_by (λ e. is_lt (load_cmp e (m, l))) w.read in
      let few : k < length cs = omega (
        arith,
        rank,
        count_wider (λ s. comes_before s r) (λ s. true) rs.0 r (λ s h. refl) inside (not_before_itself r) refl,
        count_by-le-length (λ (s : Reading). true) rs.0,
        AllZip-long (IsReading ms) w.read rs.0 rs.1,
        w.end refl,
      ) in
      let (c, found) = element_at cs k few in
      let (n, listed, place) = w.candidates k c found in
      let (t, also, there, other) = reading_of c n listed in
      let one : t.index ≡ r.index = same_rank rs.0 t r also inside (other ∙ place ∙ sym rank) in
      let is : c ≡ m = same_Some c m (sym there ∙ ap (slice_get ms) one ∙ at) in (
        k,
        found ∙ ap Some is,
        λ j here.
            let (o, too, rung) = w.candidates j m here in
            let Q : List Member → Type 0 = λ xs. IsStrictlySortedBy member_cmp xs in
            let load : o ≡ l = one_load w.read m o l (subst Q (sym w.whole) (sorted_kept weighs ms sorted)) too among in
            sym rung ∙ ap (λ x. count_by (λ e. is_lt (load_cmp e (m, x))) w.read) load,
      )

  none_other : (m : Member) → Contains cs m → Contains ms m × (0 < m.weight)
  none_other m within =
      let (k, at) = contained cs m within in
      let (l, among, rank) = w.candidates k m at in
      let (i, p) = entry_at w.read (m, l) among in
      let place = member_at w.read m l i p in
      let named : Contains (map (λ (e : Member × ℕ). e.0) w.read) m = (
        i,
        slice_get_within _ i m place,
        get_or_from_slice_get _ i m m place,
      ) in
      let P : List Member → Type 0 = λ xs. Contains xs m in
      let kept : Contains (filter weighs ms) m = subst P w.whole named in (
        each_at (λ x. Contains ms x) (filter weighs ms) m (each_kept (λ x. Contains ms x) weighs ms (each_among ms ms (λ x h. h))) kept,
        weighs_means m (each_at (λ x. weighs x ≡ true) (filter weighs ms) m (each_passes weighs ms) kept),
      )

pub least_visits_all : LeastVisitsAll
least_visits_all ms sorted draws cs w m = (comes_once ms sorted draws cs w m, none_other ms sorted draws cs w m)
