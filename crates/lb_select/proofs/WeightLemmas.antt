-- Weighted candidates by index: the entry of the expanded list is the first choice, and on a sorted list the rank of a
-- backend is its index.
use Rattle.std.specs.Prelude.{◌≡◌, ℕ, zero, suc, ◌+◌, ◌%◌, ◌<◌, Bool, true, false, List, [], ◌∷◌, ◌++◌, length, get_or, Some, cond}
use Rattle.std.specs.Prelude.{count_by, refl}
use Rattle.std.proofs.Common.{arith, rules, ap, subst, ◌∙◌, w64, is_lt, Ordering, Less}
use Rattle.std.specs.Int.{to_le_bytes}
use Rattle.std.specs.List.{AllByRecursion as Each, slice_get}
use Rattle.std.specs.List.Sorted.{IsStrictlySortedBy}
use Rattle.std.specs.Cmp.{IsTotalOrder}
use Rattle.std.specs.Cmp.Rules.{comparing}
use Rattle.std.specs.Ordering.{ordering_reverse}
use Rattle.std.proofs.lemmas.Cmp.{tied_itself}
use Rattle.std.proofs.lemmas.List.Sums.{sum_by-cons}
use Rattle.std.proofs.lemmas.Option.{slice_get-get_or, get_or_from_slice_get, same_Some, none-some}
use Rattle.lb_select_base.specs.Backends.{Member, member_cmp}
use Rattle.lb_select_base.specs.Draws.{Draw}
use Rattle.lb_select.specs.Weights.{total_weight, HoldsPlace, IsFirstChoice, IsFallback, IsWeightedRest}

-- backends are in a total order
pub member_cmp_total : IsTotalOrder member_cmp
member_cmp_total = search (comparing, rules) depth 9

module _ {K : Type 0} {R : K → K → Ordering} (total : IsTotalOrder R) where
  -- what is above is not below
  not_below : (x y : K) → R x y ≡ Less → is_lt (R y x) ≡ false
  not_below x y e = ap is_lt (total.antisymm y x ∙ ap ordering_reverse e)

  -- nothing is below itself
  not_itself : (x : K) → is_lt (R x x) ≡ false
  not_itself x = ap is_lt (tied_itself total x)

  -- none of those above is below
  none_below : (x : K) (ys : List K) → Each (λ y. R x y ≡ Less) ys → count_by (λ c. is_lt (R c x)) ys ≡ 0
  none_below x [] h = refl
  none_below x (y ∷ ys) h =
      sum_by-cons (λ c. cond (is_lt (R c x)) 1 0) y ys
      ∙ ap (λ b. cond b 1 0 + count_by (λ c. is_lt (R c x)) ys) (not_below x y h.0)
      ∙ omega (arith, none_below x ys h.1)

  -- what holds of all elements holds of one
  each_at : (x : K) (ys : List K) (i : ℕ) (m : K) → Each (λ y. R x y ≡ Less) ys → slice_get ys i ≡ Some m → R x m ≡ Less
  each_at x [] i m h e = absurd (none-some m e)
  each_at x (y ∷ ys) zero m h e = subst (λ z. R x z ≡ Less) (same_Some y m e) h.0
  each_at x (y ∷ ys) (suc i) m h e = each_at x ys i m h.1 e

  -- in a strictly sorted list an element has as many smaller ones as its index says
  pub smaller_count :
      (xs : List K) (i : ℕ) (m : K) → IsStrictlySortedBy R xs → slice_get xs i ≡ Some m
      → count_by (λ c. is_lt (R c m)) xs ≡ i
  unfolding IsStrictlySortedBy
  smaller_count [] i m s e = absurd (none-some m e)
  smaller_count (x ∷ xs) zero m s e =
      let same : x ≡ m = same_Some x m e in
      let P : K → Type 0 = λ z. count_by (λ c. is_lt (R c z)) (x ∷ xs) ≡ 0 in
      subst P same
      (sum_by-cons (λ c. cond (is_lt (R c x)) 1 0) x xs
      ∙ ap (λ b. cond b 1 0 + count_by (λ c. is_lt (R c x)) xs) (not_itself x)
      ∙ omega (arith, none_below x xs s.0))
  smaller_count (x ∷ xs) (suc i) m s e =
      sum_by-cons (λ c. cond (is_lt (R c m)) 1 0) x xs
      ∙ ap (λ o. cond (is_lt o) 1 0 + count_by (λ c. is_lt (R c m)) xs) (each_at x xs i m s.0 e)
      ∙ omega (arith, smaller_count xs i m s.1 e)

-- an element of a list
pub element_at : (ms : List Member) (index : ℕ) → index < length ms → (m : Member) × (slice_get ms index ≡ Some m)
element_at [] index h = absurd (omega arith)
element_at (x ∷ xs) index h = (get_or (x ∷ xs) index x, slice_get-get_or (x ∷ xs) index x h)

-- a list with weight is not empty
pub some_member : (ms : List Member) → 0 < total_weight ms → 0 < length ms
some_member [] h = absurd (omega arith)
some_member (x ∷ xs) h = omega arith

-- the index whose interval holds the place is the first choice's
pub first_at :
    (ms : List Member) (word index : ℕ) → 0 < total_weight ms → HoldsPlace ms (word % total_weight ms) index → index < length ms
    → (m : Member) × (slice_get ms index ≡ Some m) × IsFirstChoice ms word m
first_at ms word index pos holds within =
    let m = element_at ms index within in (m.0, m.1, (pos, index, holds, m.1))

-- the index that the word leaves is the fallback's
pub fallback_at :
    (ms : List Member) (word index : ℕ) → IsStrictlySortedBy member_cmp ms → 0 < total_weight ms → index ≡ word % length ms
    → (m : Member) × (slice_get ms index ≡ Some m) × IsFallback ms word m
fallback_at ms word index sorted pos same =
    let some = some_member ms pos in
    let within : index < length ms = omega arith in
    let m = element_at ms index within in (
      m.0,
      m.1,
      (
        pos,
        (index, within, get_or_from_slice_get ms index m.0 m.0 m.1),
        smaller_count member_cmp_total ms index m.0 sorted m.1 ∙ same,
      ),
    )

-- the first choice, then the rest
pub first_rest :
    (gives_word : List ℕ → List Draw → ℕ → Type 0) (ms : List Member) (word : ℕ) (m : Member) → IsFirstChoice ms word m
    → (es : List Draw) (cs : List Member) (e : Bool) → IsWeightedRest gives_word false ms word es cs e
    → IsWeightedRest gives_word true ms word es (m ∷ cs) e
first_rest gives_word ms word m chosen es cs e rest =
    record { later = rest.later; drawn = rest.drawn; candidates = (chosen, rest.candidates); end = rest.end }

-- a word that was drawn, its fallback, then the rest
pub later_rest :
    (gives_word : List ℕ → List Draw → ℕ → Type 0) (ms : List Member) (word : ℕ) (draws : List Draw) (d : ℕ) (m : Member)
    → gives_word (to_le_bytes w64 word) draws d → IsFallback ms d m
    → (es : List Draw) (cs : List Member) (e : Bool) → IsWeightedRest gives_word false ms d es cs e
    → IsWeightedRest gives_word false ms word (draws ++ es) (m ∷ cs) e
later_rest gives_word ms word draws d m gave chosen es cs e rest =
    record { later = d ∷ rest.later; drawn = (draws, es, refl, gave, rest.drawn); candidates = (chosen, rest.candidates); end = rest.end }
