-- Reading the loads of a set, backend by backend.
use Rattle.std.specs.Prelude.{◌≡◌, ℕ, ◌+◌, ◌<◌, ◌≤◌, ◌==◌, Bool, true, false, List, [], ◌∷◌, ◌++◌, map, take, Some, cond, count_by, refl}
use Rattle.std.proofs.Common.{arith, sym, ap, ◌∙◌, ⊎_elim}
use Rattle.std.specs.List.{filter, slice_get, AllZip, AllByRecursion as Each}
use Rattle.std.proofs.lemmas.Bool.Decides.{eqb_tells, nat_tests}
use Rattle.std.proofs.lemmas.List.{take_more, map-append}
use Rattle.std.proofs.lemmas.List.Elements.{filter-append}
use Rattle.std.proofs.lemmas.List.Sums.{sum_by-append, sum_by-cons}
use Rattle.std.proofs.lemmas.Option.{get_or_from_slice_get, slice_get_within}
use Rattle.lb_select_base.specs.Backends.{Member}
use Rattle.lb_select_base.specs.Draws.{Draw, load, Gives}
use Rattle.lb_select_base.proofs.Lists.{append-nil, Each-push}
use Rattle.lb_select.specs.LeastLoads.{weighs}
use Rattle.lb_select.specs.Readings.{IsReading, AreRead}
use Rattle.lb_select.specs.declared.reading.Reading.{Reading}

-- two lists that are related one by one, and one more of each
zip_push :
    {A B : Type 0} (R : A → B → Type 0) (xs : List A) (ys : List B) (x : A) (y : B)
    → AllZip R xs ys → R x y → AllZip R (xs ++ x ∷ []) (ys ++ y ∷ [])
zip_push R [] [] x y h r = (r, tt)
zip_push R [] (v ∷ ys) x y h r = absurd h
zip_push R (u ∷ xs) [] x y h r = absurd h
zip_push R (u ∷ xs) (v ∷ ys) x y h r = (h.0, zip_push R xs ys x y h.1 r)

-- the backends before an index, and the one at it
taken_more : (ms : List Member) (i : ℕ) (m : Member) → slice_get ms i ≡ Some m → take (i + 1) ms ≡ take i ms ++ m ∷ []
taken_more ms i m at =
    take_more ms i m (slice_get_within ms i m at) ∙ ap (λ x. take i ms ++ x ∷ []) (get_or_from_slice_get ms i m m at)

weighs_is : (m : Member) → 0 < m.weight → weighs m ≡ true
weighs_is m h = grind (arith, nat_tests)

weighs_not : (m : Member) → m.weight ≤ 0 → weighs m ≡ false
weighs_not m h = grind (arith, nat_tests)

-- how many of a list and of one more pass a test
count_more :
    {X : Type 0} (f : X → Bool) (xs : List X) (x : X) → count_by f (xs ++ x ∷ []) ≡ count_by f xs + cond (f x) 1 0
count_more f xs x =
    sum_by-append (λ y. cond (f y) 1 0) xs (x ∷ []) ∙ omega (arith, sum_by-cons (λ y. cond (f y) 1 0) x [])

-- nothing is read yet
pub read_none : (may_give : Draw → Type 0) (ms : List Member) → AreRead may_give ms 0 []
read_none may_give ms = record {
  read = [];
  whole = refl;
  each = tt;
  drawn = tt;
  once = λ i. omega arith;
  fresh = λ i h. refl;
}

-- a backend of weight 0 is passed over
pub read_past :
    (may_give : Draw → Type 0) (ms : List Member) (i : ℕ) (rs : List Reading) (m : Member)
    → AreRead may_give ms i rs → slice_get ms i ≡ Some m → m.weight ≤ 0 → AreRead may_give ms (i + 1) rs
read_past may_give ms i rs m p at light = record {
  read = p.read;
  whole =
      p.whole
      ∙ sym (ap (filter weighs) (taken_more ms i m at)
      ∙ filter-append weighs (take i ms) (m ∷ [])
      ∙ ap {B = List Member} (λ b. filter weighs (take i ms) ++ cond b (m ∷ []) []) (weighs_not m light)
      ∙ append-nil (filter weighs (take i ms)));
  each = p.each;
  drawn = p.drawn;
  once = p.once;
  fresh = λ k h. p.fresh k (omega (arith, h));
}

-- the load of another is read
pub read_more :
    (may_give : Draw → Type 0) (ms : List Member) (i : ℕ) (rs : List Reading) (m : Member) (r : Reading)
    → AreRead may_give ms i rs → slice_get ms i ≡ Some m → r.index ≡ i → r.weight ≡ m.weight → may_give (load m r.load)
    → AreRead may_give ms (i + 1) (rs ++ r ∷ [])
read_more may_give ms i rs m r p at index_is weight_is given =
    let heavy : 0 < m.weight = omega (arith, weight_is, r.weighs) in
    record {
      read = p.read ++ (m, r.load) ∷ [];
      whole =
          map-append (λ (e : Member × ℕ). e.0) p.read ((m, r.load) ∷ [])
          ∙ ap (λ xs. xs ++ m ∷ []) p.whole
          ∙ sym (ap (filter weighs) (taken_more ms i m at)
          ∙ filter-append weighs (take i ms) (m ∷ [])
          ∙ ap {B = List Member} (λ b. filter weighs (take i ms) ++ cond b (m ∷ []) []) (weighs_is m heavy));
      each =
          let here : slice_get ms r.index ≡ Some m = ap (slice_get ms) index_is ∙ at in
          zip_push (IsReading ms) p.read rs (m, r.load) r p.each (record { at = here; weight = weight_is; load = refl });
      drawn = Each-push (λ e. may_give (load e.0 e.1)) p.read (m, r.load) p.drawn given;
      once = λ k. ⊎_elim
          (λ hit.
          omega (
            arith,
            count_more (λ (s : Reading). s.index == k) rs r,
            ap {B = ℕ} (λ b. cond b 1 0) hit.0,
            p.fresh k (omega (arith, hit.1, index_is)),
          ))
          (λ miss. omega (arith, count_more (λ (s : Reading). s.index == k) rs r, ap {B = ℕ} (λ b. cond b 1 0) miss.0, p.once k))
          (eqb_tells r.index k);
      fresh = λ k h. ⊎_elim
          (λ hit. absurd (omega (arith, hit.1, index_is, h)))
          (λ miss.
          omega (
            arith,
            count_more (λ (s : Reading). s.index == k) rs r,
            ap {B = ℕ} (λ b. cond b 1 0) miss.0,
            p.fresh k (omega (arith, h)),
          ))
          (eqb_tells r.index k);
    }

-- loads that a source may give as it is are drawn from it, and it stays as it is
pub all_given :
    {S : Type 0} (gives : S → Draw → S → Type 0) (s : S) (read : List (Member × ℕ))
    → Each (λ e. gives s (load e.0 e.1) s) read → Gives gives s (map (λ e. load e.0 e.1) read) s
all_given gives s [] each = refl
all_given gives s (e ∷ read) each = (s, each.0, all_given gives s read each.1)
