-- The list of points, turned so that it begins at a place, rises by the distance clockwise from there: so the elements before
-- one of them are the nearer points.
use Rattle.std.proofs.Common.{◌≡◌, ℕ, ◌+◌, ◌-◌, ◌%◌, ◌^◌, ◌<◌, ◌≤◌, inl, inr, List, ◌++◌, length, get_or, take, drop, refl, sym, subst, ◌∙◌}
use Rattle.std.proofs.Common.{arith, length-take, length-drop, length-append, get_or-drop, get_or-take}
use Rattle.std.specs.List.{Contains}
use Rattle.std.proofs.lemmas.List.{get_or-append_right, get_or_append_left}
use Rattle.std.proofs.lemmas.List.Elements.{Contains-append_cases, Contains-append_left, Contains-append_right, Contains-get_or}
use Rattle.std.proofs.lemmas.Grind.{get_or_default_zero}
use Rattle.lb_select_base.specs.Backends.{Address}
use Rattle.lb_select.specs.Circle.{clockwise, Lists, IsPoint, IsPointOf}
use Rattle.lb_select.specs.Sorted.{Rises, turn_index}
use Rattle.lb_select.proofs.Lists.{in_take, in_drop, in_parts, rises_cut, rises_left, rises_right, rises_append, rises_by, rises_once}
use Rattle.lb_select.proofs.Lists.{before_is_less, less_is_before, less_tells, turned_below}

-- the way to a place that is not below, and to one that is
pub clockwise_up : (place q : ℕ) → place ≤ q → q < 2 ^ 32 → clockwise place q ≡ q - place
clockwise_up place q h l = omega arith

pub clockwise_round : (place q : ℕ) → q < place → place < 2 ^ 32 → clockwise place q ≡ q + 2 ^ 32 - place
clockwise_round place q h l = omega arith

-- a list that begins at some element and goes on from the first
abbrev pub around : ℕ → List ℕ → List ℕ
around s ps = drop s ps ++ take s ps

module _ (ps : List ℕ) (rises : Rises (λ p. p) ps) (small : (q : ℕ) → Contains ps q → q < 2 ^ 32)
    (place : ℕ) (low : place < 2 ^ 32) (s : ℕ) (within : s ≤ length ps)
    (below : (k : ℕ) → k < s → get_or ps k 0 < place) (above : (k : ℕ) → s ≤ k → k < length ps → place ≤ get_or ps k 0) where
  taken_below : (q : ℕ) → Contains (take s ps) q → q < place
  taken_below q (k, h, e) =
      let inside : k < s = omega (arith, length-take s ps) in
      let same : get_or (take s ps) k q ≡ get_or ps k q = get_or-take s ps k q inside in
      let far : k < length ps = omega arith in
      let P : ℕ → Type 0 = λ x. x < place in
      subst P (sym (get_or_default_zero ps k q far) ∙ sym same ∙ e) (below k inside)

  dropped_above : (q : ℕ) → Contains (drop s ps) q → place ≤ q
  dropped_above q (k, h, e) =
      let far : s + k < length ps = omega (arith, length-drop s ps) in
      let P : ℕ → Type 0 = λ x. place ≤ x in
      subst P (sym (get_or_default_zero ps (s + k) q far) ∙ sym (get_or-drop s ps k q) ∙ e) (above (s + k) (omega arith) far)

  around_has : (q : ℕ) → Contains ps q → Contains (around s ps) q
  around_has q m = elim (in_parts s ps q m) [
    | inl a ↦ Contains-append_right (drop s ps) (take s ps) q a
    | inr b ↦ Contains-append_left (drop s ps) (take s ps) q b
  ]

  has_around : (q : ℕ) → Contains (around s ps) q → Contains ps q
  has_around q m = elim (Contains-append_cases (drop s ps) (take s ps) q m) [ inl a ↦ in_drop s ps q a | inr b ↦ in_take s ps q b ]

  around_rises : Rises (clockwise place) (around s ps)
  around_rises =
      let cut = rises_cut (λ p. p) s ps rises in
      rises_append (clockwise place) (drop s ps) (take s ps)
      (rises_by (λ p. p) (clockwise place) (drop s ps) (rises_right (λ p. p) (take s ps) (drop s ps) cut)
      (λ x y p q h. rw (
        clockwise_up place x (dropped_above x p) (small x (in_drop s ps x p)),
        clockwise_up place y (dropped_above y q) (small y (in_drop s ps y q)),
      )
      (let l = dropped_above x p in let g : x - place < y - place = omega arith in g)))
      (rises_by (λ p. p) (clockwise place) (take s ps) (rises_left (λ p. p) (take s ps) (drop s ps) cut)
      (λ x y p q h. rw (clockwise_round place x (taken_below x p) low, clockwise_round place y (taken_below y q) low)
      (let g : x + 2 ^ 32 - place < y + 2 ^ 32 - place = omega arith in g)))
      (λ x y p q.
      let l = taken_below y q in let h = dropped_above x p in let k = small x (in_drop s ps x p) in
      rw (clockwise_up place x h k, clockwise_round place y l low) (let g : x - place < y + 2 ^ 32 - place = omega arith in g))

  around_length : length (around s ps) ≡ length ps
  around_length = omega (arith, length-append (drop s ps) (take s ps), length-drop s ps, length-take s ps)

  around_at : (r d : ℕ) → r < length ps → get_or (around s ps) r d ≡ get_or ps (turn_index s r (length ps)) d
  around_at r d h =
      elim (less_tells r (length ps - s)) [
        | inl first ↦ (let l : r < length (drop s ps) = omega (arith, first.1, length-drop s ps) in
            rw first.0 (get_or_append_left (drop s ps) (take s ps) d r l ∙ get_or-drop s ps r d))
        | inr later ↦ (let l : length ps - s ≤ r = omega (arith, later.1) in let t : r - (length ps - s) < s = omega arith in
            rw later.0 (get_or-append_right (drop s ps) (take s ps) (length ps - s) r d (length-drop s ps) l
            ∙ get_or-take s ps (r - (length ps - s)) d t))
      ]

  -- the nearer points are those before it
  nearer_before : (r : ℕ) → r < length ps
      → Lists (λ q. Contains ps q × (clockwise place q < clockwise place (get_or ps (turn_index s r (length ps)) 0))) (take r (around s ps))
  nearer_before r h =
      let e = around_at r 0 h in
      let l : r < length (around s ps) = omega (arith, around_length) in
      record {
        once = rises_once (clockwise place) (take r (around s ps))
            (rises_left (clockwise place) (take r (around s ps)) (drop r (around s ps))
            (rises_cut (clockwise place) r (around s ps) around_rises));
        all = λ q m. less_is_before (clockwise place) (around s ps) around_rises r l q (around_has q m.0) (rw e m.1);
        only = λ q m. (
          has_around q (in_take r (around s ps) q m),
          rw e at (before_is_less (clockwise place) (around s ps) around_rises r l q m),
        );
      }

  -- the point of candidate j
  pub point_of_candidate : (has : ℕ → Address → Type 0) → ((q : ℕ) → IsPoint has q → Contains ps q)
      → ((q : ℕ) → Contains ps q → IsPoint has q)
      → 0 < length ps → (j : ℕ) → IsPointOf has place j (get_or ps (turn_index s (j % length ps) (length ps)) 0)
  point_of_candidate has all only some j =
      let turn : j % length ps < length ps = omega arith in
      let place_of : turn_index s (j % length ps) (length ps) < length ps = turned_below s (j % length ps) (length ps) within turn in
      let p = get_or ps (turn_index s (j % length ps) (length ps)) 0 in
      let before = nearer_before (j % length ps) turn in
      record {
        point = only p (Contains-get_or ps (turn_index s (j % length ps) (length ps)) 0 place_of);
        number = length ps;
        points = (ps, record { once = rises_once (λ q. q) ps rises; all = all; only = only }, refl);
        nearer = (
          take (j % length ps) (around s ps),
          record {
            once = before.once;
            all = λ q m. before.all q (all q m.0, m.1);
            only = λ q m. (only q (before.only q m).0, (before.only q m).1);
          },
          omega (arith, length-take (j % length ps) (around s ps), around_length),
        );
      }
