-- Candidates and owners by the entries of a ring in order.
use Rattle.std.proofs.Common.{◌≡◌, ℕ, ◌%◌, ◌^◌, ◌<◌, ◌≤◌, inl, inr, false, List, [], ◌∷◌, length, map, get_or, refl, sym, ap, subst, ◌∙◌}
use Rattle.std.proofs.Common.{arith, rules}
use Rattle.std.specs.List.{Contains}
use Rattle.std.specs.Cmp.{IsTotalOrder}
use Rattle.std.specs.Cmp.Rules.{comparing}
use Rattle.std.proofs.lemmas.Cmp.{tied_itself}
use Rattle.std.proofs.lemmas.List.{get_or-map}
use Rattle.std.proofs.lemmas.List.Elements.{Contains-get_or}
use Rattle.std.proofs.Math.ListN.{length-map}
use Rattle.std.specs.declared.cmp.Ordering.{Ordering}
use Rattle.std.specs.declared.cmp.Ordering.TheVariants.{Less, Equal, Greater}
use Rattle.std.specs.Ordering.{is_lt, ordering_reverse}
use Rattle.lb_select_base.specs.Backends.{Address, address_cmp}
use Rattle.lb_select_base.specs.Identity.{address_same}
use Rattle.lb_select.specs.Circle.{IsExactly, IsNearer, IsPoint, IsPointOf, IsRingOwner}
use Rattle.lb_select.specs.Rings.{Given, IsRingOf, RingLaw}
use Rattle.lb_select.specs.Sorted.{Rises, none, more, point_of, turn_index, IsArranged, SplitsAt, IsInOrder}
use Rattle.lb_select.proofs.Lists.{here, there, head_or_rest, nothing_in_none, first_below, rest_rises, one_at, turned_below}
use Rattle.lb_select.proofs.Ranks.{point_of_candidate}

pub address_total : IsTotalOrder address_cmp
address_total = search (comparing, rules) depth 9

-- of two things of which neither is less the one compares equal to the other
tie_of : (o : Ordering) → is_lt o ≡ false → is_lt (ordering_reverse o) ≡ false → o ≡ Equal
tie_of Less p q = absurd (cc)
tie_of Equal p q = refl
tie_of Greater p q = absurd (cc)

pub not_below_itself : (a : Address) → is_lt (address_cmp a a) ≡ false
not_below_itself a = ap is_lt (tied_itself address_total a)

pub neither_below : (a b : Address) → is_lt (address_cmp a b) ≡ false → is_lt (address_cmp b a) ≡ false → a ≡ b
neither_below a b p q = address_same a b (tie_of (address_cmp a b) p (sym (ap is_lt (address_total.antisymm b a)) ∙ q))

-- elements of what a function makes of a list
module _ {X Y : Type 0} (f : X → Y) where
  pub in_map : (xs : List X) (x : X) → Contains xs x → Contains (map f xs) (f x)
  in_map [] x m = absurd (nothing_in_none x m)
  in_map (y ∷ xs) x m =
      elim (head_or_rest y xs x m) [
        | inl same ↦ (let P : X → Type 0 = λ z. Contains (f y ∷ map f xs) (f z) in subst P same (here (f y) (map f xs)))
        | inr later ↦ there (f y) (map f xs) (f x) (in_map xs x later)
      ]

  pub of_map : (xs : List X) (y : Y) → Contains (map f xs) y → (x : X) × Contains xs x × (f x ≡ y)
  of_map [] y m = absurd (nothing_in_none y m)
  of_map (x ∷ xs) y m =
      elim (head_or_rest (f x) (map f xs) y m) [
        | inl same ↦ (x, here x xs, same)
        | inr later ↦ (let w = of_map xs y later in (w.0, there x xs w.0 w.1, w.2))
      ]

rises_points : {T : Type 0} (es : List (ℕ × T)) → Rises (point_of {T = T}) es → Rises (λ p. p) (map (point_of {T = T}) es)
rises_points {T} [] r = none
rises_points {T} (e ∷ es) r =
    more (λ q m. let w = of_map (point_of {T = T}) es q m in let P : ℕ → Type 0 = λ z. e.0 < z
    in subst P w.2 (first_below (point_of {T = T}) e es r w.0 w.1))
    (rises_points es (rest_rises (point_of {T = T}) e es r))

module _ {T : Type 0} (es : List (ℕ × T)) (order : IsInOrder es) (place : ℕ) (low : place < 2 ^ 32) (s : ℕ) (within : s ≤ length es)
    (split : SplitsAt place es s) (d : ℕ × T)
    (has : ℕ → Address → Type 0) (all : (q : ℕ) → IsPoint has q → (e : ℕ × T) × Contains es e × (e.0 ≡ q)) (only : (e : ℕ × T)
    → Contains es e → IsPoint has e.0) where
  -- the entry of candidate j
  pub candidate_at : 0 < length es → (j : ℕ) → IsPointOf has place j (get_or es (turn_index s (j % length es) (length es)) d).0
  candidate_at some j =
      let ps = map (point_of {T = T}) es in
      let n : length ps ≡ length es = length-map es (point_of {T = T}) in
      let inside : s ≤ length ps = omega arith in
      let any : 0 < length ps = omega arith in
      let small : (q : ℕ) → Contains ps q → q < 2 ^ 32 = λ q m. let w = of_map (point_of {T = T}) es q m in let P : ℕ
      → Type 0 = λ z. z < 2 ^ 32 in subst P w.2 (order.small w.0 w.1) in
      let below : (k : ℕ) → k < s → get_or ps k 0 < place = λ k h.
      (let l : k < length es = omega arith in let z : 0 ≤ k = omega arith in
      let P : ℕ → Type 0 = λ x. x < place in subst P (sym (get_or-map (point_of {T = T}) es k d 0 l)) (split.below k d z h)) in
      let above : (k : ℕ) → s ≤ k → k < length ps → place ≤ get_or ps k 0 = λ k h l.
      (let l' : k < length es = omega arith in
      let P : ℕ → Type 0 = λ x. place ≤ x in subst P (sym (get_or-map (point_of {T = T}) es k d 0 l')) (split.above k d h l')) in
      let found : IsPointOf has place j (get_or ps (turn_index s (j % length ps) (length ps)) 0) =
      point_of_candidate ps (rises_points es order.rises) small place low s inside below above has
      (λ q p. let w = all q p in let P : ℕ → Type 0 = λ z. Contains ps z in subst P w.2 (in_map (point_of {T = T}) es w.0 w.1))
      (λ q m. let w = of_map (point_of {T = T}) es q m in let P : ℕ → Type 0 = λ z. IsPoint has z in subst P w.2 (only w.0 w.1))
      any j in
      let turn : j % length es < length es = omega arith in
      let where' : turn_index s (j % length es) (length es) < length es = turned_below s (j % length es) (length es) within turn in
      let P : ℕ → Type 0 = λ m. IsPointOf has place j (get_or ps (turn_index s (j % m) m) 0) in
      let Q : ℕ → Type 0 = λ p. IsPointOf has place j p in
      subst Q (get_or-map (point_of {T = T}) es (turn_index s (j % length es) (length es)) d 0 where') (subst P n found)

pair_same : (x : ℕ × Address) (p : ℕ) (a : Address) → x.0 ≡ p → x.1 ≡ a → x ≡ (p, a)
pair_same x p a e f = λ i. (e i, f i)

-- a ring's entries, as points with the addresses that are seen
module _ {T : Type 0} (see : T → Address) where
  abbrev seen : ℕ × T → ℕ × Address
  seen e = (e.0, see e.1)

  entry_of_point : (es : List (ℕ × T)) (p : ℕ) (a : Address) → Contains (map seen es) (p, a) → (e : ℕ × T) × Contains es e × (e.0 ≡ p)
      × (see e.1 ≡ a)
  entry_of_point es p a m = let w = of_map seen es (p, a) m
      in (w.0, w.1, ap (λ (z : ℕ × Address). z.0) w.2, ap (λ (z : ℕ × Address). z.1) w.2)

  -- the owner of candidate j
  pub owner_at : (es : List (ℕ × T)) → IsInOrder es → (place : ℕ) → place < 2 ^ 32 → (s : ℕ) → s ≤ length es → SplitsAt place es s
      → 0 < length es → (j : ℕ) (d : ℕ × T)
      → IsRingOwner (Given (map seen es)) place j (see (get_or es (turn_index s (j % length es) (length es)) d).1)
  owner_at es order place low s within split some j d =
      let at = turn_index s (j % length es) (length es) in
      let turn : j % length es < length es = omega arith in
      let where' : at < length es = turned_below s (j % length es) (length es) within turn in
      let e : ℕ × T = get_or es at d in
      let in' : Contains es e = Contains-get_or es at d where' in (
        e.0,
        candidate_at es order place low s within split d (Given (map seen es))
            (λ q p. let w = entry_of_point es q p.0 p.1 in (w.0, w.1, w.2)) (λ f m. (see f.1, in_map seen es f m)) some j,
        record {
          has_it = in_map seen es e in';
          least = λ b m.
              let w = entry_of_point es e.0 b m in
              let same : w.0 ≡ e = one_at (point_of {T = T}) es order.rises w.0 e w.1 in' w.2 in
              let equal : see e.1 ≡ b = ap (λ (z : ℕ × T). see z.1) (sym same) ∙ w.3 in
              let P : Address → Type 0 = λ z. is_lt (address_cmp z (see e.1)) ≡ false in subst P equal (not_below_itself (see e.1));
        },
      )

  -- what is kept of entries makes a ring of them
  pub ring_of_kept : (cmp : T → T → Ordering) (tie : (x y : T) → cmp x y ≡ address_cmp (see x) (see y)) (given kept : List (ℕ × T))
      → IsArranged cmp given kept → IsRingOf (map seen given) (map seen kept)
  ring_of_kept cmp tie given kept h = record {
    points = λ p. (
      (λ w. let e = entry_of_point kept p w.0 w.1 in (
        see e.0.1,
        (let P : ℕ → Type 0 = λ z. Contains (map seen given) (z, see e.0.1)
            in subst P e.2 (in_map seen given e.0 (h.given_too e.0 e.1))),
      )),
      (λ w. let e = entry_of_point given p w.0 w.1 in let k = h.least e.0 e.1 in (
        see k.0.1,
        (let P : ℕ → Type 0 = λ z. Contains (map seen kept) (z, see k.0.1)
            in subst P (k.2 ∙ e.2) (in_map seen kept k.0 k.1)),
      )),
    );
    owners = λ p a. (
      (λ m. let e = entry_of_point kept p a m in record {
        has_it = subst (λ (z : ℕ × Address). Contains (map seen given) z) (pair_same (seen e.0) p a e.2 e.3)
            (in_map seen given e.0 (h.given_too e.0 e.1));
        least = λ b n.
            let f = entry_of_point given p b n in
            let k = h.least f.0 f.1 in
            let same : k.0 ≡ e.0 = one_at (point_of {T = T}) kept h.rises k.0 e.0 k.1 e.1 (k.2 ∙ f.2 ∙ sym e.2) in
            let test : is_lt (address_cmp (see f.0.1) (see k.0.1)) ≡ false = ap is_lt (sym (tie f.0.1 k.0.1)) ∙ k.3 in
            let P : Address → Address → Type 0 = λ y z. is_lt (address_cmp y z) ≡ false in
            subst (P b) (ap (λ (z : ℕ × T). see z.1) same ∙ e.3) (subst (λ (y : Address). P y (see k.0.1)) f.3 test);
      }),
      (λ o.
          let e = entry_of_point given p a o.has_it in
          let k = h.least e.0 e.1 in
          let P : Address → Address → Type 0 = λ y z. is_lt (address_cmp y z) ≡ false in
          let up : is_lt (address_cmp a (see k.0.1)) ≡ false = subst (λ (y : Address). P y (see k.0.1)) e.3
          (ap is_lt (sym (tie e.0.1 k.0.1)) ∙ k.3) in
          let down : is_lt (address_cmp (see k.0.1) a) ≡ false = o.least (see k.0.1)
          (subst (λ (z : ℕ). Contains (map seen given) (z, see k.0.1)) (k.2 ∙ e.2) (in_map seen given k.0 (h.given_too k.0 k.1))) in
          subst (λ (z : ℕ × Address). Contains (map seen kept) z)
          (pair_same (seen k.0) p a (k.2 ∙ e.2) (sym (neither_below a (see k.0.1) up down))) (in_map seen kept k.0 k.1)),
    );
  }

-- numbers of one property are as many as those of another that says the same
exact_same : (P Q : ℕ → Type 0) → ((q : ℕ) → P q → Q q) → ((q : ℕ) → Q q → P q) → (n : ℕ) → IsExactly P n → IsExactly Q n
exact_same P Q to from n (xs, l, e) = (xs, record { once = l.once; all = λ q h. l.all q (from q h); only = λ q m. to q (l.only q m) }, e)

pub ring_law : RingLaw
ring_law given ring h place j a (p, x, o) =
    let to : (q : ℕ) → IsPoint (Given ring) q → IsPoint (Given given) q = λ q m. (h.points q).0 m in
    let from : (q : ℕ) → IsPoint (Given given) q → IsPoint (Given ring) q = λ q m. (h.points q).1 m in (
      p,
      record {
        point = to p x.point;
        number = x.number;
        points = exact_same (IsPoint (Given ring)) (IsPoint (Given given)) to from x.number x.points;
        nearer = exact_same (IsNearer (Given ring) place p) (IsNearer (Given given) place p) (λ q m. (to q m.0, m.1))
            (λ q m. (from q m.0, m.1)) (j % x.number) x.nearer;
      },
      (h.owners p a).0 o.has_it,
    )
