-- Lists in rising order: what comes before an element, the list cut in two and put together the other way round.
use Rattle.std.proofs.Common.{◌≡◌, ℕ, zero, suc, ◌+◌, ◌-◌, ◌<◌, ◌≤◌, ◌⊎◌, inl, inr, true, false, nat_eq, nat_lt, List, [], ◌∷◌, ◌++◌}
use Rattle.std.proofs.Common.{length, get_or, take, drop, refl, sym, ap, subst, ◌∙◌, arith}
use Rattle.std.specs.List.{Contains, IsDistinct, AllByRecursion}
use Rattle.std.proofs.lemmas.List.{take-append-drop}
use Rattle.std.proofs.lemmas.List.Elements.{Contains-get_or, Contains-append_cases, Contains-append_left, Contains-append_right}
use Rattle.std.proofs.lemmas.Bool.Decides.{eqb_tells, leb_tells}
use Rattle.lb_select.specs.Sorted.{Rises, none, more, turn_index}

module _ {X : Type 0} where
  -- an element of a list is its head or an element of the rest
  pub here : (x : X) (xs : List X) → Contains (x ∷ xs) x
  here x xs = (0, omega arith, refl)

  pub there : (x : X) (xs : List X) (y : X) → Contains xs y → Contains (x ∷ xs) y
  there x xs y (k, h, e) = (suc k, omega arith, e)

  pub head_or_rest : (x : X) (xs : List X) (y : X) → Contains (x ∷ xs) y → (x ≡ y) ⊎ Contains xs y
  head_or_rest x xs y (zero, h, e) = inl e
  head_or_rest x xs y (suc k, h, e) = inr (k, omega arith, e)

  pub nothing_in_none : (y : X) → Contains [] y → ⊥
  nothing_in_none y (k, h, e) = absurd (omega arith)

  -- an element of a part is an element of the whole
  pub in_take : (n : ℕ) (xs : List X) (y : X) → Contains (take n xs) y → Contains xs y
  in_take n xs y h = let P : List X → Type 0 = λ zs. Contains zs y
      in subst P (take-append-drop n xs) (Contains-append_left (take n xs) (drop n xs) y h)

  pub in_drop : (n : ℕ) (xs : List X) (y : X) → Contains (drop n xs) y → Contains xs y
  in_drop n xs y h = let P : List X → Type 0 = λ zs. Contains zs y
      in subst P (take-append-drop n xs) (Contains-append_right (take n xs) (drop n xs) y h)

  pub in_parts : (n : ℕ) (xs : List X) (y : X) → Contains xs y → Contains (take n xs) y ⊎ Contains (drop n xs) y
  in_parts n xs y h = let P : List X → Type 0 = λ zs. Contains zs y
      in Contains-append_cases (take n xs) (drop n xs) y (subst P (sym (take-append-drop n xs)) h)

  module _ (f : X → ℕ) where
    pub first_below : (x : X) (xs : List X) → Rises f (x ∷ xs) → (y : X) → Contains xs y → f x < f y
    first_below x xs (more a r) = a

    pub rest_rises : (x : X) (xs : List X) → Rises f (x ∷ xs) → Rises f xs
    rest_rises x xs (more a r) = r

    -- of two elements the one that comes first is below
    pub below_at : (xs : List X) → Rises f xs → (i j : ℕ) (d : X) → i < j → j < length xs → f (get_or xs i d) < f (get_or xs j d)
    below_at [] r i j d h k = absurd (omega arith)
    below_at (x ∷ xs) r i zero d h k = absurd (omega arith)
    below_at (x ∷ xs) r zero (suc j) d h k = let w : j < length xs = omega arith
        in first_below x xs r (get_or xs j d) (Contains-get_or xs j d w)
    below_at (x ∷ xs) r (suc i) (suc j) d h k = below_at xs (rest_rises x xs r) i j d (omega arith) (omega arith)

    -- two rising lists, one above the other
    pub rises_append : (xs ys : List X) → Rises f xs → Rises f ys → ((x y : X) → Contains xs x → Contains ys y → f x < f y)
        → Rises f (xs ++ ys)
    rises_append [] ys r s h = s
    rises_append (x ∷ xs) ys r s h =
        more (λ y m. elim (Contains-append_cases xs ys y m) [ inl a ↦ first_below x xs r y a | inr b ↦ h x y (here x xs) b ])
        (rises_append xs ys (rest_rises x xs r) s (λ a b p q. h a b (there x xs a p) q))

    pub rises_left : (xs ys : List X) → Rises f (xs ++ ys) → Rises f xs
    rises_left [] ys r = none
    rises_left (x ∷ xs) ys r = more (λ y m. first_below x (xs ++ ys) r y (Contains-append_left xs ys y m))
        (rises_left xs ys (rest_rises x (xs ++ ys) r))

    pub rises_right : (xs ys : List X) → Rises f (xs ++ ys) → Rises f ys
    rises_right [] ys r = r
    rises_right (x ∷ xs) ys r = rises_right xs ys (rest_rises x (xs ++ ys) r)

    pub rises_across : (xs ys : List X) → Rises f (xs ++ ys) → (x y : X) → Contains xs x → Contains ys y → f x < f y
    rises_across [] ys r x y p q = absurd (nothing_in_none x p)
    rises_across (z ∷ xs) ys r x y p q =
        elim (head_or_rest z xs x p) [
          | inl e ↦ (let P : X → Type 0 = λ w. f w < f y in subst P e (first_below z (xs ++ ys) r y (Contains-append_right xs ys y q)))
          | inr m ↦ rises_across xs ys (rest_rises z (xs ++ ys) r) x y m q
        ]

    pub rises_cut : (n : ℕ) (xs : List X) → Rises f xs → Rises f (take n xs ++ drop n xs)
    rises_cut n xs r = let P : List X → Type 0 = λ zs. Rises f zs in subst P (sym (take-append-drop n xs)) r

    -- elements of one value are one element
    pub one_at : (xs : List X) → Rises f xs → (x y : X) → Contains xs x → Contains xs y → f x ≡ f y → x ≡ y
    one_at [] r x y p q e = absurd (nothing_in_none x p)
    one_at (z ∷ xs) r x y p q e =
        elim (head_or_rest z xs x p) [
          | inl a ↦ elim (head_or_rest z xs y q) [
            | inl b ↦ sym a ∙ b
            | inr b ↦ (let l : f z < f y = first_below z xs r y b in let same : f z ≡ f x = ap f a in absurd (omega arith))
          ]
          | inr a ↦ elim (head_or_rest z xs y q) [
            | inl b ↦ (let l : f z < f x = first_below z xs r x a in let same : f z ≡ f y = ap f b in absurd (omega arith))
            | inr b ↦ one_at xs (rest_rises z xs r) x y a b e
          ]
        ]

  -- another measure that rises with the first
  pub rises_by : (f g : X → ℕ) (xs : List X) → Rises f xs → ((x y : X) → Contains xs x → Contains xs y → f x < f y → g x < g y) → Rises g xs
  rises_by f g [] r h = none
  rises_by f g (x ∷ xs) r h =
      more (λ y m. h x y (here x xs) (there x xs y m) (first_below f x xs r y m))
      (rises_by f g xs (rest_rises f x xs r) (λ a b p q. h a b (there x xs a p) (there x xs b q)))

-- what a test of numbers says
pub less_tells : (a b : ℕ) → ((nat_lt a b ≡ true) × (a < b)) ⊎ ((nat_lt a b ≡ false) × (b ≤ a))
less_tells a b = elim (leb_tells (suc a) b) [ inl h ↦ inl (h.0, h.1) | inr h ↦ inr (h.0, omega (arith, h.1)) ]

-- an index that was turned is an index
pub turned_below : (s r n : ℕ) → s ≤ n → r < n → turn_index s r n < n
turned_below s r n w h =
    elim (less_tells r (n - s)) [
      | inl first ↦ rw first.0 (let l : r < n - s = first.1 in let g : s + r < n = omega arith in g)
      | inr later ↦ rw later.0 (let g : r - (n - s) < n = omega arith in g)
    ]

-- the numbers of a rising list are apart
apart_all : (h : ℕ → ℕ) (x : ℕ) (xs : List ℕ) → ((y : ℕ) → Contains xs y → h x < h y) → AllByRecursion (λ y. nat_eq x y ≡ false) xs
apart_all h x [] below = tt
apart_all h x (y ∷ ys) below = (
  elim (eqb_tells x y) [
    | inl same ↦ (let l : h x < h y = below y (here y ys) in let e : h x ≡ h y = ap h same.1 in absurd (omega arith))
    | inr other ↦ other.0
  ],
  apart_all h x ys (λ z m. below z (there y ys z m)),
)

pub rises_once : (h : ℕ → ℕ) (xs : List ℕ) → Rises h xs → IsDistinct nat_eq xs
unfolding IsDistinct
rises_once h [] r = tt
rises_once h (x ∷ xs) r = (apart_all h x xs (first_below h x xs r), rises_once h xs (rest_rises h x xs r))

-- the elements before the one at r are those of a smaller value
pub before_is_less : (h : ℕ → ℕ) (ks : List ℕ) → Rises h ks → (r : ℕ) → r < length ks → (q : ℕ) → Contains (take r ks) q
    → h q < h (get_or ks r 0)
before_is_less h [] s r l q m = absurd (omega arith)
before_is_less h (k ∷ ks) s zero l q m = absurd (nothing_in_none q m)
before_is_less h (k ∷ ks) s (suc r) l q m =
    let w : r < length ks = omega arith in
    elim (head_or_rest k (take r ks) q m) [
      | inl e ↦ (let P : ℕ → Type 0 = λ x. h x < h (get_or ks r 0)
          in subst P e (first_below h k ks s (get_or ks r 0) (Contains-get_or ks r 0 w)))
      | inr t ↦ before_is_less h ks (rest_rises h k ks s) r w q t
    ]

pub less_is_before : (h : ℕ → ℕ) (ks : List ℕ) → Rises h ks → (r : ℕ) → r < length ks → (q : ℕ) → Contains ks q → h q < h (get_or ks r 0)
    → Contains (take r ks) q
less_is_before h [] s r l q m b = absurd (omega arith)
less_is_before h (k ∷ ks) s zero l q m b =
    elim (head_or_rest k ks q m) [
      | inl e ↦ (let same : h k ≡ h q = ap h e in absurd (omega arith))
      | inr t ↦ (let f : h k < h q = first_below h k ks s q t in absurd (omega arith))
    ]
less_is_before h (k ∷ ks) s (suc r) l q m b =
    let w : r < length ks = omega arith in
    elim (head_or_rest k ks q m) [
      | inl e ↦ (let P : ℕ → Type 0 = λ x. Contains (k ∷ take r ks) x in subst P e (here k (take r ks)))
      | inr t ↦ there k (take r ks) q (less_is_before h ks (rest_rises h k ks s) r w q t b)
    ]
