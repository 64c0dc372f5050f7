-- Counting by lists that have each number once.
use Rattle.std.proofs.Common.{◌≡◌, ◌≢◌, ℕ, suc, ◌<◌, ◌≤◌, ◌⊎◌, inl, inr, true, false, nat_eq, List, [], ◌∷◌, length, refl, sym, ap, subst}
use Rattle.std.proofs.Common.{◌∙◌, arith}
use Rattle.std.specs.List.{Contains, IsDistinct, AllByRecursion}
use Rattle.std.proofs.lemmas.Bool.Decides.{eqb_tells}
use Rattle.std.proofs.lemmas.Map.Keys.{IsDistinct-head, IsDistinct-tail, IsDistinct-cons}
use Rattle.lb_select.specs.Circle.{Lists}
use Rattle.lb_select.proofs.Lists.{here, there, head_or_rest, nothing_in_none, less_tells}

-- an element that is apart from all of a list
pub apart_from_all : (x : ℕ) (xs : List ℕ) → ((y : ℕ) → Contains xs y → x ≢ y) → AllByRecursion (λ y. nat_eq x y ≡ false) xs
apart_from_all x [] h = tt
apart_from_all x (y ∷ ys) h = (
  elim (eqb_tells x y) [ inl same ↦ absurd (h y (here y ys) same.1) | inr other ↦ other.0 ],
  apart_from_all x ys (λ z m. h z (there y ys z m)),
)

pub all_apart : (x : ℕ) (xs : List ℕ) → AllByRecursion (λ y. nat_eq x y ≡ false) xs → (y : ℕ) → Contains xs y → x ≢ y
all_apart x [] h y m e = nothing_in_none y m
all_apart x (z ∷ zs) h y m e =
    elim (head_or_rest z zs y m) [
      | inl same ↦ elim (eqb_tells x z) [
        | inl t ↦ (let wrong : true ≡ false = sym t.0 ∙ h.0 in absurd (cc))
        | inr t ↦ absurd (t.1 (e ∙ sym same))
      ]
      | inr later ↦ all_apart x zs h.1 y later e
    ]

pub distinct_cons : (x : ℕ) (xs : List ℕ) → ((y : ℕ) → Contains xs y → x ≢ y) → IsDistinct nat_eq xs → IsDistinct nat_eq (x ∷ xs)
distinct_cons x xs h d = IsDistinct-cons nat_eq x xs (apart_from_all x xs h) d

-- a list with one element less
without : (ys : List ℕ) (z : ℕ) → Contains ys z → (rest : List ℕ) × (length ys ≡ suc (length rest))
    × ((q : ℕ) → Contains ys q → q ≢ z → Contains rest q)
without [] z m = absurd (nothing_in_none z m)
without (y ∷ ys) z m =
    elim (head_or_rest y ys z m) [
      | inl e ↦ (ys, refl, λ q n d. elim (head_or_rest y ys q n) [ inl f ↦ absurd (d (sym f ∙ e)) | inr t ↦ t ])
      | inr later ↦ (let w = without ys z later in (
        y ∷ w.0,
        ap suc w.1,
        λ q n d. elim (head_or_rest y ys q n) [
          | inl f ↦ (let P : ℕ → Type 0 = λ x. Contains (y ∷ w.0) x in subst P f (here y w.0))
          | inr t ↦ there y w.0 q (w.2 q t d)
        ],
      ))
    ]

-- numbers that are apart and all in a list are no more than the list has
pub no_more : (xs ys : List ℕ) → IsDistinct nat_eq xs → ((q : ℕ) → Contains xs q → Contains ys q) → length xs ≤ length ys
no_more [] ys d h = omega arith
no_more (x ∷ xs) ys d h =
    let w = without ys x (h x (here x xs)) in
    let apart : (y : ℕ) → Contains xs y → x ≢ y = all_apart x xs (IsDistinct-head nat_eq x xs d) in
    let r : length xs ≤ length w.0 = no_more xs w.0 (IsDistinct-tail nat_eq x xs d)
    (λ q m. w.2 q (h q (there x xs q m)) (λ e. apart q m (sym e))) in
    let e : length ys ≡ suc (length w.0) = w.1 in
    omega arith

-- whether a list has a number
pub in_or_not : (xs : List ℕ) (q : ℕ) → Contains xs q ⊎ (Contains xs q → ⊥)
in_or_not [] q = inr (λ m. nothing_in_none q m)
in_or_not (x ∷ xs) q =
    elim (eqb_tells x q) [
      | inl same ↦ inl (let P : ℕ → Type 0 = λ z. Contains (x ∷ xs) z in subst P same.1 (here x xs))
      | inr other ↦ elim (in_or_not xs q) [
        | inl m ↦ inl (there x xs q m)
        | inr missing ↦ inr (λ m. elim (head_or_rest x xs q m) [ inl e ↦ other.1 e | inr t ↦ missing t ])
      ]
    ]

pub distinct_none : IsDistinct nat_eq []
unfolding IsDistinct
distinct_none = tt

-- each number of a list once
pub once_each : (xs : List ℕ) → (ys : List ℕ) × Lists (Contains xs) ys
once_each [] = ([], record { once = distinct_none; all = λ q m. m; only = λ q m. m })
once_each (x ∷ xs) =
    let w = once_each xs in
    elim (in_or_not w.0 x) [
      | inl known ↦ (
        w.0,
        record {
          once = w.1.once;
          all = λ q m. elim (head_or_rest x xs q m) [
            | inl e ↦ (let P : ℕ → Type 0 = λ z. Contains w.0 z in subst P e known)
            | inr t ↦ w.1.all q t
          ];
          only = λ q m. there x xs q (w.1.only q m);
        },
      )
      | inr new ↦ (
        x ∷ w.0,
        record {
          once = distinct_cons x w.0 (λ y m e. new (let P : ℕ → Type 0 = λ z. Contains w.0 z in subst P (sym e) m)) w.1.once;
          all = λ q m. elim (head_or_rest x xs q m) [
            | inl e ↦ (let P : ℕ → Type 0 = λ z. Contains (x ∷ w.0) z in subst P e (here x w.0))
            | inr t ↦ there x w.0 q (w.1.all q t)
          ];
          only = λ q m. elim (head_or_rest x w.0 q m) [
            | inl e ↦ (let P : ℕ → Type 0 = λ z. Contains (x ∷ xs) z in subst P e (here x xs))
            | inr t ↦ there x xs q (w.1.only q t)
          ];
        },
      )
    ]

-- those of a list whose measure is below a limit
pub those_below : (f : ℕ → ℕ) (limit : ℕ) (xs : List ℕ) → IsDistinct nat_eq xs → (ys : List ℕ)
    × Lists (λ q. Contains xs q × (f q < limit)) ys
those_below f limit [] d = ([], record { once = d; all = λ q m. m.0; only = λ q m. absurd (nothing_in_none q m) })
those_below f limit (x ∷ xs) d =
    let w = those_below f limit xs (IsDistinct-tail nat_eq x xs d) in
    let apart : (y : ℕ) → Contains xs y → x ≢ y = all_apart x xs (IsDistinct-head nat_eq x xs d) in
    elim (less_tells (f x) limit) [
      | inl inside ↦ (
        x ∷ w.0,
        record {
          once = distinct_cons x w.0 (λ y m. apart y (w.1.only y m).0) w.1.once;
          all = λ q m. elim (head_or_rest x xs q m.0) [
            | inl e ↦ (let P : ℕ → Type 0 = λ z. Contains (x ∷ w.0) z in subst P e (here x w.0))
            | inr t ↦ there x w.0 q (w.1.all q (t, m.1))
          ];
          only = λ q m. elim (head_or_rest x w.0 q m) [
            | inl e ↦ (let P : ℕ → Type 0 = λ z. Contains (x ∷ xs) z × (f z < limit) in subst P e (here x xs, inside.1))
            | inr t ↦ (there x xs q (w.1.only q t).0, (w.1.only q t).1)
          ];
        },
      )
      | inr outside ↦ (
        w.0,
        record {
          once = w.1.once;
          all = λ q m. elim (head_or_rest x xs q m.0) [
            | inl e ↦ (let l : limit ≤ f x = outside.1 in let b : f q < limit = m.1 in let same : f x ≡ f q = ap f e
                in absurd (omega arith))
            | inr t ↦ w.1.all q (t, m.1)
          ];
          only = λ q m. (there x xs q (w.1.only q m).0, (w.1.only q m).1);
        },
      )
    ]
