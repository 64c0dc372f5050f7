-- Starts and cells: equal keys have one cell, a change takes its keys one by one, and what it keeps of the cells before it.
use Rattle.std.proofs.Common.{◌≡◌, ◌<◌, ◌≤◌, ◌+◌, ℕ, Bool, true, false, cond, not, ◌&&◌, ◌||◌, List, [], ◌∷◌, ◌++◌, length, reverse, filter}
use Rattle.std.proofs.Common.{Option, Some, None, refl, sym, ap, ◌∙◌, arith, true≢false, length-append}
use Rattle.std.proofs.Math.Bool.{or-false}
use Rattle.std.proofs.lemmas.List.{reverse-append, length-reverse}
use Rattle.std.proofs.lemmas.List.Elements.{filter-append}
use Rattle.std.proofs.lemmas.List.Folds.{list_any-append}
use Rattle.std.proofs.lemmas.List.Sorted.{IsPermutation-reverse, list_any-IsPermutation}
use Rattle.std.proofs.lemmas.Map.Steps.{list_any_congr}
use Rattle.std.proofs.lemmas.Map.Made.{is_member-filter}
use Rattle.std.proofs.lemmas.Option.{same_Some}
use Rattle.std.specs.Cmp.{IsEquivalence}
use Rattle.std.specs.List.{list_any}
use Rattle.std.specs.Option.{is_some}
use Rattle.lb_health_core.specs.Starts.{is_target, starts, latest_start, cell_now}

-- by what a test answers
pub either : {P : Type 0} (b : Bool) → (b ≡ true → P) → (b ≡ false → P) → P
either true t f = t refl
either false t f = f refl

-- a value under a test that is there
pub cond_is : {A : Type 0} (b : Bool) (o : Option A) (x : A) → cond b o None ≡ Some x → (b ≡ true) × (o ≡ Some x)
cond_is true o x e = (refl, e)
cond_is false o x e = absurd (cc)

and_false : (b : Bool) → (b && false) ≡ false
and_false true = refl
and_false false = refl

or_true : (b : Bool) → (b || true) ≡ true
or_true true = refl
or_true false = refl

past_by : (b : Bool) (n : ℕ) (o r : Option ℕ) (any : Bool) → (b || any) ≡ false → (any ≡ false → o ≡ r) → cond b (Some n) o ≡ r
past_by true n o r any e h = absurd (true≢false e)
past_by false n o r any e h = h e

-- a number that is there, and not below n
pub record IsAbove (n : ℕ) (o : Option ℕ) : Type 0 where
  pub number : ℕ
  pub is : o ≡ Some number
  pub above : n ≤ number

above_by : (b : Bool) (n m : ℕ) (o : Option ℕ) (any : Bool) → (b || any) ≡ true → m ≤ n → (any ≡ true → IsAbove m o)
    → IsAbove m (cond b (Some n) o)
above_by true n m o any e l h = record { number = n; is = refl; above = l }
above_by false n m o any e l h = h e

lt_by : (b : Bool) (n c : ℕ) (o : Option ℕ) → cond b (Some n) o ≡ Some c → (o ≡ Some c → c < n) → c < n + 1
lt_by true n c o e h = omega (arith, same_Some n c e)
lt_by false n c o e h = omega (arith, h e)

module _ {K : Type 0} {same : K → K → Bool} (laws : IsEquivalence same) where
  -- equal keys are targets alike
  pub is_target-same : (all : List (List K)) (q x : K) → same q x ≡ true → is_target same all q ≡ is_target same all x
  is_target-same [] q x e = refl
  is_target-same (now ∷ earlier) q x e = list_any_congr laws q x now e

  -- equal keys have one latest start
  pub latest_start-same : (ss : List K) (q x : K) → same q x ≡ true → latest_start same ss q ≡ latest_start same ss x
  latest_start-same [] q x e = refl
  latest_start-same (y ∷ ss) q x e = rw (laws.congr q x y e, latest_start-same ss q x e) refl

  -- equal keys have one cell
  pub cell_now-same : (all : List (List K)) (q x : K) → same q x ≡ true → cell_now same all q ≡ cell_now same all x
  cell_now-same all q x e = rw (is_target-same all q x e, latest_start-same (starts same all) q x e) refl

  -- starts of other keys come on top
  latest_past : (ys ss : List K) (k : K) → list_any (same k) ys ≡ false → latest_start same (ys ++ ss) k ≡ latest_start same ss k
  latest_past [] ss k e = refl
  latest_past (y ∷ ys) ss k e =
      past_by (same k y) (length (ys ++ ss)) (latest_start same (ys ++ ss) k) (latest_start same ss k) (list_any (same k) ys) e
      (latest_past ys ss k)

  -- a start of the key itself has a higher number than all before
  latest_above : (ys ss : List K) (k : K) → list_any (same k) ys ≡ true → IsAbove (length ss) (latest_start same (ys ++ ss) k)
  latest_above [] ss k e = absurd (cc)
  latest_above (y ∷ ys) ss k e =
      above_by (same k y) (length (ys ++ ss)) (length ss) (latest_start same (ys ++ ss) k) (list_any (same k) ys) e
      (omega (arith, length-append ys ss)) (latest_above ys ss k)

  -- the keys that start are those of the change that were no targets
  new_starts :
      (all : List (List K)) (keys : List K) (k : K)
      → list_any (same k) (reverse (filter (λ q. not (is_target same all q)) keys)) ≡ (list_any (same k) keys && not (is_target same all k))
  new_starts all keys k =
      let fresh : K → Bool = λ q. not (is_target same all q) in
      sym (list_any-IsPermutation (same k) (filter fresh keys) (reverse (filter fresh keys)) (IsPermutation-reverse (filter fresh keys)))
      ∙ is_member-filter laws fresh k (λ x e. ap not (is_target-same all k x e)) keys

  -- a key that was a target starts nothing
  pub latest-kept :
      (all : List (List K)) (keys : List K) (k : K) → is_target same all k ≡ true
      → latest_start same (starts same (keys ∷ all)) k ≡ latest_start same (starts same all) k
  latest-kept all keys k t =
      latest_past (reverse (filter (λ q. not (is_target same all q)) keys)) (starts same all) k
      (new_starts all keys k ∙ ap (λ b. list_any (same k) keys && not b) t ∙ and_false (list_any (same k) keys))

  -- a key that was no target starts with a new number
  pub latest-fresh :
      (all : List (List K)) (keys : List K) (k : K) → is_target same all k ≡ false → list_any (same k) keys ≡ true
      → IsAbove (length (starts same all)) (latest_start same (starts same (keys ∷ all)) k)
  latest-fresh all keys k f i =
      latest_above (reverse (filter (λ q. not (is_target same all q)) keys)) (starts same all) k
      (new_starts all keys k ∙ ap (λ b. list_any (same k) keys && not b) f ∙ ap (λ b. b && true) i)

  -- a target has started
  pub latest-some : (all : List (List K)) (k : K) → is_target same all k ≡ true → is_some (latest_start same (starts same all) k) ≡ true
  latest-some [] k t = absurd (cc)
  latest-some (now ∷ earlier) k t =
      let ih : is_target same earlier k ≡ true → is_some (latest_start same (starts same earlier) k) ≡ true = latest-some earlier k in
      either (is_target same earlier k) (λ was. ap is_some (latest-kept earlier now k was) ∙ ih was)
      (λ new. ap is_some (latest-fresh earlier now k new t).is)

  latest_start-lt : (ss : List K) (k : K) (c : ℕ) → latest_start same ss k ≡ Some c → c < length ss
  latest_start-lt [] k c e = absurd (cc)
  latest_start-lt (y ∷ ss) k c e = omega (arith, lt_by (same k y) (length ss) c (latest_start same ss k) e (latest_start-lt ss k c))

  -- the number of a cell was given
  pub cell_now-lt : (all : List (List K)) (k : K) (c : ℕ) → cell_now same all k ≡ Some c → c < length (starts same all)
  cell_now-lt all k c e =
      latest_start-lt (starts same all) k c (cond_is (is_target same all k) (latest_start same (starts same all) k) c e).1

  -- whether there is a cell
  pub cell_now-some : (all : List (List K)) (k : K) → is_some (cell_now same all k) ≡ is_target same all k
  cell_now-some all k =
      either (is_target same all k)
      (λ t. ap (λ b. is_some (cond b (latest_start same (starts same all) k) None)) t ∙ latest-some all k t ∙ sym t)
      (λ f. ap (λ b. is_some (cond b (latest_start same (starts same all) k) None)) f ∙ sym f)

  -- a target with a number that was given before had it before
  pub old_cell :
      (all : List (List K)) (keys : List K) (k : K) (c : ℕ) → cell_now same (keys ∷ all) k ≡ Some c → c < length (starts same all)
      → cell_now same all k ≡ Some c
  old_cell all keys k c e l =
      let now = cond_is (is_target same (keys ∷ all) k) (latest_start same (starts same (keys ∷ all)) k) c e in
      either (is_target same all k)
      (λ t. ap (λ b. cond b (latest_start same (starts same all) k) None) t ∙ sym (latest-kept all keys k t) ∙ now.1)
      (λ f. let high = latest-fresh all keys k f now.0
      in absurd (omega (arith, high.above, same_Some high.number c (sym high.is ∙ now.1), l)))

  pushed_by :
      (t : Bool) (x : K) (r s : List K)
      → (reverse (cond (not t) (x ∷ []) []) ++ r) ++ s ≡ cond t (r ++ s) (x ∷ (r ++ s))
  pushed_by true x r s = refl
  pushed_by false x r s = refl

  -- one more key of a change starts, or doesn't
  pub starts-push :
      (all : List (List K)) (xs : List K) (x : K)
      → starts same ((xs ++ x ∷ []) ∷ all) ≡ cond (is_target same all x) (starts same (xs ∷ all)) (x ∷ starts same (xs ∷ all))
  starts-push all xs x =
      let fresh : K → Bool = λ q. not (is_target same all q) in
      ap (λ ys. reverse ys ++ starts same all) (filter-append fresh xs (x ∷ []))
      ∙ ap (λ ys. ys ++ starts same all) (reverse-append (filter fresh xs) (filter fresh (x ∷ [])))
      ∙ pushed_by (is_target same all x) x (reverse (filter fresh xs)) (starts same all)

  listed_itself : (xs : List K) (x : K) → list_any (same x) (xs ++ x ∷ []) ≡ true
  listed_itself xs x =
      list_any-append (same x) xs (x ∷ []) ∙ ap (λ b. list_any (same x) xs || (b || false)) (laws.refl x) ∙ or_true (list_any (same x) xs)

  listed_other : (xs : List K) (x q : K) → same q x ≡ false → list_any (same q) (xs ++ x ∷ []) ≡ list_any (same q) xs
  listed_other xs x q f =
      list_any-append (same q) xs (x ∷ []) ∙ ap (λ b. list_any (same q) xs || (b || false)) f ∙ or-false (list_any (same q) xs)

  latest_other :
      (t : Bool) (ss : List K) (x q : K) → same q x ≡ false → latest_start same (cond t ss (x ∷ ss)) q ≡ latest_start same ss q
  latest_other true ss x q f = refl
  latest_other false ss x q f = ap (λ b. cond b (Some (length ss)) (latest_start same ss q)) f

  -- the number that one more key of a change has
  abbrev pub number_of : List (List K) → List K → K → Option ℕ
  number_of all xs x = cond (is_target same all x) (cell_now same all x) (Some (length (starts same (xs ∷ all))))

  latest_itself :
      (all : List (List K)) (xs : List K) (x : K)
      → latest_start same (starts same ((xs ++ x ∷ []) ∷ all)) x ≡ number_of all xs x
  latest_itself all xs x =
      let push : latest_start same (starts same ((xs ++ x ∷ []) ∷ all)) x ≡ latest_start same
      (cond (is_target same all x) (starts same (xs ∷ all)) (x ∷ starts same (xs ∷ all))) x
      = ap (λ ss. latest_start same ss x) (starts-push all xs x) in
      either (is_target same all x)
      (λ t.
      push ∙ ap (λ b. latest_start same (cond b (starts same (xs ∷ all)) (x ∷ starts same (xs ∷ all))) x) t ∙ latest-kept all xs x t
      ∙ sym (ap (λ b. cond b (cond b (latest_start same (starts same all) x) None) (Some (length (starts same (xs ∷ all))))) t))
      (λ f.
      push ∙ ap (λ b. latest_start same (cond b (starts same (xs ∷ all)) (x ∷ starts same (xs ∷ all))) x) f
      ∙ ap (λ b. cond b (Some (length (starts same (xs ∷ all)))) (latest_start same (starts same (xs ∷ all)) x)) (laws.refl x)
      ∙ sym (ap (λ b. cond b (cond b (latest_start same (starts same all) x) None) (Some (length (starts same (xs ∷ all))))) f))

  -- the cells after one more key of a change
  pub cell_now-push :
      (all : List (List K)) (xs : List K) (x q : K)
      → cell_now same ((xs ++ x ∷ []) ∷ all) q ≡ cond (same x q) (number_of all xs x) (cell_now same (xs ∷ all) q)
  cell_now-push all xs x q =
      either (same x q)
      (λ e.
      cell_now-same ((xs ++ x ∷ []) ∷ all) q x (laws.symm q x ∙ e)
      ∙ ap (λ b. cond b (latest_start same (starts same ((xs ++ x ∷ []) ∷ all)) x) None) (listed_itself xs x)
      ∙ latest_itself all xs x
      ∙ sym (ap (λ b. cond b (number_of all xs x) (cell_now same (xs ∷ all) q)) e))
      (λ e.
      let f : same q x ≡ false = laws.symm q x ∙ e in
      ap (λ b. cond b (latest_start same (starts same ((xs ++ x ∷ []) ∷ all)) q) None) (listed_other xs x q f)
      ∙ ap (λ o. cond (list_any (same q) xs) o None)
      (ap (λ ss. latest_start same ss q) (starts-push all xs x) ∙ latest_other (is_target same all x) (starts same (xs ∷ all)) x q f)
      ∙ sym (ap (λ b. cond b (number_of all xs x) (cell_now same (xs ∷ all) q)) e))

  -- a longer change starts no fewer
  pub starts-grow :
      (all : List (List K)) (xs ys : List K) → length (starts same (xs ∷ all)) ≤ length (starts same ((xs ++ ys) ∷ all))
  starts-grow all xs ys =
      let fresh : K → Bool = λ q. not (is_target same all q) in
      omega (
        arith,
        length-append (reverse (filter fresh xs)) (starts same all),
        length-append (reverse (filter fresh (xs ++ ys))) (starts same all),
        length-reverse (filter fresh xs),
        length-reverse (filter fresh (xs ++ ys)),
        ap length (filter-append fresh xs ys),
        length-append (filter fresh xs) (filter fresh ys),
      )
