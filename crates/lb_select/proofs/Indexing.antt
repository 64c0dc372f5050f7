-- An index of points by buckets: how it is made from the lowest bucket on, and what a search knows by it.
use Rattle.std.proofs.Common.{◌≡◌, ℕ, zero, suc, ◌+◌, ◌-◌, ◌/◌, ◌^◌, ◌<◌, ◌≤◌, inl, inr, List, [], ◌∷◌, ◌++◌, length, get_or, arith, subst}
use Rattle.std.proofs.Common.{sym, length-append, ap}
use Rattle.std.proofs.Math.Pow.{shr_mono}
use Rattle.std.proofs.lemmas.List.{get_or_push, get_or_append_left}
use Rattle.std.specs.List.{AllWithin}
use Rattle.lb_select.specs.Buckets.{bucket_of, BeginsAt, HasStarts, IsIndexOf}
use Rattle.lb_select.specs.Sorted.{Rises, point_of, IsLeft}
use Rattle.lb_select.proofs.Arranging.{never_falls, halved_none}
use Rattle.lb_select.proofs.Lists.{below_at, less_tells}

-- a lower bucket has lower places
pub lower_place : (shift p q : ℕ) → bucket_of shift p < bucket_of shift q → p < q
lower_place shift p q h =
    elim (less_tells p q) [
      | inl t ↦ t.1
      | inr t ↦ (let l : bucket_of shift q ≤ bucket_of shift p = shr_mono shift t.1 in absurd (omega (arith, l, h)))
    ]

-- where the buckets below one end, and what comes then isn't of them, it begins
pub begins_there : {T : Type 0} (entries : List (ℕ × T)) → Rises point_of entries → (shift bucket at : ℕ) → at ≤ length entries
    → AllWithin (λ e. bucket_of shift e.0 < bucket) entries 0 at
    → (at < length entries → (d : ℕ × T) → bucket ≤ bucket_of shift (point_of (get_or entries at d))) → BeginsAt shift entries bucket at
begins_there entries r shift bucket at w below here = record {
  within = w;
  below = below;
  above = λ k d low high.
      let inside : at < length entries = omega (arith, low, high) in
      let first : bucket ≤ bucket_of shift (point_of (get_or entries at d)) = here inside d in
      let more : bucket_of shift (point_of (get_or entries at d)) ≤ bucket_of shift (point_of (get_or entries k d))
      = shr_mono shift (never_falls entries r at k d low high) in
      omega (arith, first, more);
}

-- an element of a list that has one
first_of : {X : Type 0} (xs : List X) (k : ℕ) → k < length xs → X
first_of [] k h = absurd (omega (arith, h))
first_of (x ∷ xs) k h = x

-- the entry at an index has a point that is no less
index_below :
    {T : Type 0} (entries : List (ℕ × T)) → Rises point_of entries → (k : ℕ) (d : ℕ × T) → k < length entries
    → k ≤ point_of (get_or entries k d)
index_below entries r zero d h = omega arith
index_below entries r (suc k) d h =
    let before : k ≤ point_of (get_or entries k d) = index_below entries r k d (omega (arith, h)) in
    let rises : point_of (get_or entries k d) < point_of (get_or entries (suc k) d) = below_at point_of entries r k (suc k) d
    (omega arith) h in
    omega (arith, before, rises)

-- so what is counted before a bucket has 32 bits
pub start_small : {T : Type 0} (entries : List (ℕ × T)) → Rises point_of entries → (shift bucket at : ℕ) → BeginsAt shift entries bucket at
    → bucket ≤ (2 ^ 32 - 1) / 2 ^ shift → at < 2 ^ 32
start_small entries r shift bucket zero b h = omega arith
start_small {T} entries r shift bucket (suc k) b h =
    let inside : k < length entries = omega (arith, b.within) in
    let d : ℕ × T = first_of entries k inside in
    let grown : k ≤ point_of (get_or entries k d) = index_below entries r k d inside in
    let low : bucket_of shift (point_of (get_or entries k d)) < bucket = b.below k d (omega arith) (omega arith) in
    let lower : point_of (get_or entries k d) < 2 ^ 32 - 1
    = lower_place shift (point_of (get_or entries k d)) (2 ^ 32 - 1) (omega (arith, low, h)) in
    omega (arith, grown, lower)

-- the starts of the first buckets
pub record IsBegun {T : Type 0} (entries : List (ℕ × T)) (shift bucket at : ℕ) (starts : List ℕ) : Type 0 where
  pub within : at ≤ length entries
  pub below : AllWithin (λ e. bucket_of shift e.0 < bucket) entries 0 at
  pub many : length starts ≡ bucket
  pub begins : (b : ℕ) → b < length starts → BeginsAt shift entries b (get_or starts b 0)

-- what a search looks at by an index: from its bucket's beginning, or the list's, to the bucket's end, or the list's
abbrev pub IsSearch : {T : Type 0} → ℕ → List (ℕ × T) → ℕ → ℕ → Type 0
IsSearch place entries first end = (first ≤ end) × IsLeft place entries first (end - first)

-- what is before its bucket is below its place, what is behind the bucket is not
left_between : {T : Type 0} (entries : List (ℕ × T)) (shift place first end : ℕ) → BeginsAt shift entries (bucket_of shift place) first
    → first ≤ end → end ≤ length entries
    → AllWithin (λ e. bucket_of shift place < bucket_of shift e.0) entries end (length entries) → IsSearch place entries first end
left_between entries shift place first end b order within over = (
  order,
  record {
    within = omega (arith, order, within);
    below = λ k d low high. lower_place shift (point_of (get_or entries k d)) place (b.below k d low high);
    above = λ k d low high.
        let l : place < point_of (get_or entries k d) = lower_place shift place (point_of (get_or entries k d))
        (over k d (omega (arith, low, order)) high) in omega (arith, l);
  },
)

left_inner : {T : Type 0} (entries : List (ℕ × T)) (shift place first end : ℕ) → BeginsAt shift entries (bucket_of shift place) first
    → BeginsAt shift entries (bucket_of shift place + 1) end → IsSearch place entries first end
left_inner {T} entries shift place first end b n =
    let order : first ≤ end = elim (less_tells end first) [
      | inl t ↦ (let inside : end < length entries = omega (arith, t.1, b.within) in
          let d : ℕ × T = first_of entries end inside in
          let low : bucket_of shift (point_of (get_or entries end d)) < bucket_of shift place = b.below end d (omega arith) t.1 in
          let high : bucket_of shift place + 1 ≤ bucket_of shift (point_of (get_or entries end d)) = n.above end d (omega arith) inside in
          absurd (omega (arith, low, high)))
      | inr t ↦ t.1
    ] in
    left_between entries shift place first end b order n.within
    (λ k d low high. let h : bucket_of shift place + 1 ≤ bucket_of shift (point_of (get_or entries k d)) = n.above k d low high
    in omega (arith, h))

left_last : {T : Type 0} (entries : List (ℕ × T)) (shift place first end : ℕ) → BeginsAt shift entries (bucket_of shift place) first
    → end ≡ length entries → IsSearch place entries first end
left_last entries shift place first end b e =
    left_between entries shift place first end b (omega (arith, e, b.within)) (omega (arith, e))
    (λ k d low high. absurd (omega (arith, e, low, high)))

pub left_by : {T : Type 0} (entries : List (ℕ × T)) (shift place first end : ℕ) (starts : List ℕ) → HasStarts entries shift starts
    → (bucket_of shift place < length starts → first ≡ get_or starts (bucket_of shift place) 0)
    → (length starts ≤ bucket_of shift place → first ≡ 0)
    → (bucket_of shift place + 1 < length starts → end ≡ get_or starts (bucket_of shift place + 1) 0)
    → (length starts ≤ bucket_of shift place + 1 → end ≡ length entries) → IsSearch place entries first end
left_by entries shift place first end starts h begins whole ends last =
    let bucket : ℕ = bucket_of shift place in
    elim (less_tells bucket (length starts)) [
      | inl known ↦ (let here : BeginsAt shift entries bucket first = subst (BeginsAt shift entries bucket) (sym (begins known.1))
          (h.begins bucket known.1) in
          elim (less_tells (bucket + 1) (length starts)) [
            | inl next ↦ left_inner entries shift place first end here
                (subst (BeginsAt shift entries (bucket + 1)) (sym (ends next.1)) (h.begins (bucket + 1) next.1))
            | inr none ↦ left_last entries shift place first end here (last none.1)
          ])
      | inr none ↦ (let start : first ≡ 0 = whole none.1 in
          let end-is : end ≡ length entries = last (omega (arith, none.1)) in
          let P : ℕ → Type 0 = λ z. IsSearch place entries z end in
          subst P (sym start) (omega arith, halved_none entries place (end - 0) (omega (arith, end-is))))
    ]

-- the start of one bucket more
pub begun_more : {T : Type 0} (entries : List (ℕ × T)) (shift bucket at now : ℕ) (starts new : List ℕ)
    → IsBegun entries shift bucket at starts → BeginsAt shift entries bucket now → new ≡ starts ++ now ∷ []
    → IsBegun entries shift (bucket + 1) now new
begun_more entries shift bucket at now starts new h b e = record {
  within = b.within;
  below = λ k d low high. let l : bucket_of shift (point_of (get_or entries k d)) < bucket = b.below k d low high in omega (arith, l);
  many = rw e (rw length-append (omega (arith, h.many)));
  begins = λ q in'.
      elim (less_tells q (length starts)) [
        | inl t ↦ (let here : BeginsAt shift entries q (get_or starts q 0) = h.begins q t.1 in
            let P : ℕ → Type 0 = λ z. BeginsAt shift entries q z in
            let Q : List ℕ → Type 0 = λ z. BeginsAt shift entries q (get_or z q 0) in
            subst Q (sym e) (subst P (sym (get_or_append_left starts (now ∷ []) 0 q t.1)) here))
        | inr t ↦ (let most : q < length (starts ++ now ∷ []) = (let P : List ℕ → Type 0 = λ z. q < length z in subst P e in') in
            let last : length starts ≡ q = (let n : length (starts ++ now ∷ []) ≡ length starts + 1 = length-append starts (now ∷ [])
            in omega (arith, t.1, most, n)) in
            let same : bucket ≡ q = omega (arith, last, h.many) in
            let P : ℕ → Type 0 = λ z. BeginsAt shift entries q z in
            let Q : List ℕ → Type 0 = λ z. BeginsAt shift entries q (get_or z q 0) in
            let R : ℕ → Type 0 = λ z. BeginsAt shift entries z now in
            subst Q (sym e) (subst P (sym (get_or_push starts now 0 q last)) (subst R same b)))
      ];
}

-- before the first bucket nothing is known
pub begun_none : {T : Type 0} (entries : List (ℕ × T)) (shift : ℕ) (starts : List ℕ) → starts ≡ [] → IsBegun entries shift 0 0 starts
begun_none entries shift starts e = record {
  within = omega arith;
  below = λ k d low high. absurd (omega (arith, high));
  many = ap length e;
  begins = λ q in'. absurd (let nothing : length starts ≡ 0 = ap length e in omega (arith, in', nothing));
}

-- when the last bucket has its start, each place has a bucket
pub begun_all : {T : Type 0} (entries : List (ℕ × T)) (shift bucket at : ℕ) (starts : List ℕ)
    → IsBegun entries shift bucket at starts → shift < 32 → bucket ≡ (2 ^ 32 - 1) / 2 ^ shift + 1 → IsIndexOf entries shift starts
begun_all entries shift bucket at starts h few all = record {
  known = record { few = few; begins = h.begins };
  all = λ place low. let l : bucket_of shift place ≤ (2 ^ 32 - 1) / 2 ^ shift = shr_mono shift (omega (arith, low))
      in omega (arith, l, all, h.many);
}
