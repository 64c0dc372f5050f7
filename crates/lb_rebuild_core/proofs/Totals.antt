-- The holds of the snapshots of one generation, and how many snapshots of it there are: at most one.
use Rattle.std.proofs.Common.{arith, ◌≡◌, ◌≤◌, ◌<◌, ◌+◌, ◌-◌, ◌==◌, ◌∙◌, ℕ, zero, suc, Bool, true, false, cond, nat_lt, List, [], ◌∷◌, ◌++◌}
use Rattle.std.proofs.Common.{get_or, refl, sym, ap}
use Rattle.std.proofs.lemmas.Bool.{eqb-true, eq-eqb, ne_eqb, false≢true}
use Rattle.std.specs.Prelude.{All, ◌||◌, if◌then◌else◌}
use Rattle.lb_health_view.specs.Snapshots.{SnapshotValue, held_more, held_less, at_generation, living}
use Rattle.lb_health_view.specs.ViewEvents.{by_age}
use Rattle.lb_health_view.specs.RegistrySide.{lives}
use Rattle.lb_rebuild_core.proofs.Pasts.{not-below}

-- the sum of a number over the snapshots of a generation
abbrev pub total : (SnapshotValue → ℕ) → ℕ → List SnapshotValue → ℕ
total f n [] = 0
total f n (s ∷ ss) = cond (s.generation == n) (f s + total f n ss) (total f n ss)

abbrev pub holds : SnapshotValue → ℕ
holds s = s.holds

abbrev pub one : SnapshotValue → ℕ
one s = 1

more-of : (b : Bool) (a x y : ℕ) → x ≡ y → cond b (a + x) x ≡ cond b (a + y) y
more-of b a x y h = ap (λ z. cond b (a + z) z) h

nothing-more : (b : Bool) (a x y : ℕ) → a ≡ 0 → x ≡ y → x ≡ cond b (a + y) y
nothing-more true a x y none h = omega arith
nothing-more false a x y none h = h

none-held : (g : ℕ) (h : ℕ) (c : ℕ) → ((g == c) || nat_lt 0 h) ≡ false → h ≡ 0
none-held g h c e = elim (g == c) as (λ b. (b || nat_lt 0 h) ≡ false → h ≡ 0) [
  | true ↦ λ t. absurd (false≢true (sym t))
  | false ↦ λ t. let low : h ≤ 0 = not-below 0 h t in omega arith
] e

pub total-append : (f : SnapshotValue → ℕ) (n : ℕ) (xs ys : List SnapshotValue) → total f n (xs ++ ys) ≡ total f n xs + total f n ys
total-append f n [] ys = omega arith
total-append f n (x ∷ xs) ys =
    elim (x.generation == n) as (λ b. cond b (f x + total f n (xs ++ ys)) (total f n (xs ++ ys)) ≡ cond b (f x + total f n xs)
    (total f n xs) + total f n ys)
    [ true ↦ omega (arith, total-append f n xs ys) | false ↦ total-append f n xs ys ]

pub total-by_age : (f : SnapshotValue → ℕ) (n : ℕ) (ss : List SnapshotValue) → total f n (by_age ss) ≡ total f n ss
total-by_age f n [] = refl
total-by_age f n (s ∷ ss) =
    total-append f n ss (s ∷ [])
    ∙ elim (s.generation == n) as (λ b. total f n ss + cond b (f s + 0) 0 ≡ cond b (f s + total f n ss) (total f n ss))
    [ true ↦ omega arith | false ↦ omega arith ]

-- a snapshot that ends was not held
pub total-living : (c n : ℕ) (ss : List SnapshotValue) → total holds n (living c ss) ≡ total holds n ss
total-living c n [] = refl
total-living c n (s ∷ ss) =
    elim ((s.generation == c) || nat_lt 0 s.holds) as (λ b. ((s.generation == c) || nat_lt 0 s.holds) ≡ b
    → total holds n (cond b (s ∷ living c ss) (living c ss)) ≡ cond (s.generation == n) (s.holds + total holds n ss) (total holds n ss)) [
      | true ↦ λ e. more-of (s.generation == n) s.holds (total holds n (living c ss)) (total holds n ss) (total-living c n ss)
      | false ↦ λ e. nothing-more (s.generation == n) s.holds (total holds n (living c ss)) (total holds n ss)
          (none-held s.generation s.holds c e) (total-living c n ss)
    ] refl

pub fewer-living : (c n : ℕ) (ss : List SnapshotValue) → total one n (living c ss) ≤ total one n ss
fewer-living c n [] = omega arith
fewer-living c n (s ∷ ss) =
    elim ((s.generation == c) || nat_lt 0 s.holds) as (λ b. total one n (cond b (s ∷ living c ss) (living c ss)) ≤ cond (s.generation == n)
    (1 + total one n ss) (total one n ss)) [
      | true ↦ elim (s.generation == n) as (λ b. cond b (1 + total one n (living c ss)) (total one n (living c ss)) ≤ cond b
          (1 + total one n ss) (total one n ss))
          [ true ↦ omega (arith, fewer-living c n ss) | false ↦ fewer-living c n ss ]
      | false ↦ elim (s.generation == n) as (λ b. total one n (living c ss) ≤ cond b (1 + total one n ss) (total one n ss))
          [ true ↦ omega (arith, fewer-living c n ss) | false ↦ fewer-living c n ss ]
    ]

-- a change of the snapshot of one generation leaves the others, and how many there are
pub total-other : (f : SnapshotValue → ℕ) (change : SnapshotValue → SnapshotValue)
    → ((s : SnapshotValue) → (change s).generation ≡ s.generation)
    → (g n : ℕ) (ss : List SnapshotValue) → ¬ (g ≡ n) → total f n (at_generation g change ss) ≡ total f n ss
total-other f change same g n [] apart = refl
total-other f change same g n (s ∷ ss) apart =
    elim (s.generation == g) as (λ b. (s.generation == g) ≡ b
    → total f n (if b then change s ∷ ss else s ∷ at_generation g change ss)
    ≡ cond (s.generation == n) (f s + total f n ss) (total f n ss)) [
      | true ↦ λ e.
          let away : (s.generation == n) ≡ false = ne_eqb s.generation n (λ at. apart (sym (eqb-true s.generation g e) ∙ at)) in
          rw (same s, away) refl
      | false ↦ λ e. more-of (s.generation == n) (f s) (total f n (at_generation g change ss)) (total f n ss)
          (total-other f change same g n ss apart)
    ] refl

pub total-one : (change : SnapshotValue → SnapshotValue) → ((s : SnapshotValue) → (change s).generation ≡ s.generation)
    → (g n : ℕ) (ss : List SnapshotValue) → total one n (at_generation g change ss) ≡ total one n ss
total-one change same g n [] = refl
total-one change same g n (s ∷ ss) =
    elim (s.generation == g) as (λ b.
    total one n (if b then change s ∷ ss else s ∷ at_generation g change ss) ≡ cond (s.generation == n) (1 + total one n ss)
    (total one n ss)) [
      | true ↦ ap (λ k. cond (k == n) (1 + total one n ss) (total one n ss)) (same s)
      | false ↦ more-of (s.generation == n) 1 (total one n (at_generation g change ss)) (total one n ss) (total-one change same g n ss)
    ]

-- one hold more of a snapshot that lives
pub total-more : (n : ℕ) (ss : List SnapshotValue) → lives n ss ≡ true → total holds n (at_generation n held_more ss) ≡ total holds n ss + 1
total-more n [] l = absurd (false≢true l)
total-more n (s ∷ ss) l =
    elim (s.generation == n) as (λ b. (s.generation == n) ≡ b → (b || lives n ss) ≡ true
    → total holds n (if b then held_more s ∷ ss else s ∷ at_generation n held_more ss) ≡ cond b (s.holds + total holds n ss)
    (total holds n ss) + 1) [
      | true ↦ λ e t. rw e (omega arith)
      | false ↦ λ e t. rw e (total-more n ss t)
    ] refl l

unheld : (n : ℕ) (ss : List SnapshotValue) → total one n ss ≡ 0 → total holds n ss ≡ 0
unheld n [] none = refl
unheld n (s ∷ ss) none =
    elim (s.generation == n) as (λ b. cond b (1 + total one n ss) (total one n ss) ≡ 0
    → cond b (s.holds + total holds n ss) (total holds n ss) ≡ 0)
    [ true ↦ λ e. absurd (omega arith) | false ↦ λ e. unheld n ss e ] none

pub total-none : (n : ℕ) (ss : List SnapshotValue) → total one n ss ≡ 0 → total holds n ss ≡ 0
total-none n ss none = unheld n ss none

-- one hold less, where there is one snapshot of the generation at most
pub total-less : (n : ℕ) (ss : List SnapshotValue) → total one n ss ≤ 1
    → total holds n (at_generation n held_less ss) ≡ total holds n ss - 1
total-less n [] few = refl
total-less n (s ∷ ss) few =
    elim (s.generation == n) as (λ b. (s.generation == n) ≡ b → cond b (1 + total one n ss) (total one n ss) ≤ 1
    → total holds n (if b then held_less s ∷ ss else s ∷ at_generation n held_less ss) ≡ cond b (s.holds + total holds n ss)
    (total holds n ss) - 1) [
      | true ↦ λ e t.
          let others : total one n ss ≡ 0 = omega arith in
          let none : total holds n ss ≡ 0 = unheld n ss others in
          rw e (omega arith)
      | false ↦ λ e t. rw e (total-less n ss t)
    ] refl few

-- a generation that is held lives
pub held-lives : (n : ℕ) (ss : List SnapshotValue) → 0 < total holds n ss → lives n ss ≡ true
held-lives n [] some = absurd (omega arith)
held-lives n (s ∷ ss) some =
    elim (s.generation == n) as (λ b. 0 < cond b (s.holds + total holds n ss) (total holds n ss) → (b || lives n ss) ≡ true)
    [ true ↦ λ e. refl | false ↦ λ e. held-lives n ss e ] some

-- no snapshot of the generation has more holds than all of them
pub holds-within : (n : ℕ) (ss : List SnapshotValue) → All (λ (s : SnapshotValue). s.generation ≡ n → s.holds ≤ total holds n ss) ss
holds-within n [] i d inside = absurd (omega arith)
holds-within n (s ∷ ss) zero d inside = λ at. rw (eq-eqb s.generation n at) (omega arith)
holds-within n (s ∷ ss) (suc i) d inside =
    λ at.
    let ih : (get_or ss i d).holds ≤ total holds n ss = holds-within n ss i d (omega arith) at in
    elim (s.generation == n) as (λ b. (get_or ss i d).holds ≤ cond b (s.holds + total holds n ss) (total holds n ss))
    [ true ↦ omega (arith, ih) | false ↦ ih ]
