-- First occurrences, candidate by candidate: what a new one and a repeat add. For any test that is an equivalence.
use Rattle.std.specs.Prelude.{◌≡◌, Bool, true, false, ◌||◌, List, [], ◌∷◌, ◌++◌, if◌then◌else◌, refl}
use Rattle.std.proofs.Common.{sym, ap, ◌∙◌, append_assoc}
use Rattle.std.specs.Cmp.{IsEquivalence}
use Rattle.std.specs.List.{AllByRecursion as Each, list_any}
use Rattle.std.proofs.lemmas.List.Folds.{list_any-append}
use Rattle.lb_select_base.specs.Unique.{firsts, distinct}

-- nothing after a list
pub append-nil : {B : Type 0} (xs : List B) → xs ++ [] ≡ xs
append-nil [] = refl
append-nil (x ∷ xs) = ap (λ ys. x ∷ ys) (append-nil xs)

-- true on the left is enough
or-true : (a b : Bool) → a ≡ true → (a || b) ≡ true
or-true true b e = refl
or-true false b e = absurd (cc)

-- what holds of each element holds of each by what follows from it
pub Each-weaker : {B : Type 0} (P Q : B → Type 0) → ((x : B) → P x → Q x) → (xs : List B) → Each P xs → Each Q xs
Each-weaker P Q weaker [] each = tt
Each-weaker P Q weaker (x ∷ xs) each = (weaker x each.0, Each-weaker P Q weaker xs each.1)

-- and of one more
pub Each-push : {B : Type 0} (P : B → Type 0) (xs : List B) (x : B) → Each P xs → P x → Each P (xs ++ x ∷ [])
Each-push P [] x each p = (p, tt)
Each-push P (y ∷ ys) x each p = (each.0, Each-push P ys x each.1 p)

module _ {B : Type 0} (same : B → B → Bool) where
  -- one more candidate that came before adds nothing
  firsts-old : (before xs : List B) (x : B) → list_any (same x) (before ++ xs) ≡ true
      → firsts same before (xs ++ x ∷ []) ≡ firsts same before xs
  firsts-old before [] x old = let e : list_any (same x) before ≡ true = rw append-nil at old in rw e
  firsts-old before (y ∷ ys) x old =
      let step : firsts same (before ++ y ∷ []) (ys ++ x ∷ []) ≡ firsts same (before ++ y ∷ []) ys
      = firsts-old (before ++ y ∷ []) ys x (rw append_assoc old) in
      rw step

  -- and one that is new comes last
  firsts-new : (before xs : List B) (x : B) → list_any (same x) (before ++ xs) ≡ false
      → firsts same before (xs ++ x ∷ []) ≡ firsts same before xs ++ x ∷ []
  firsts-new before [] x new = let e : list_any (same x) before ≡ false = rw append-nil at new in rw e
  firsts-new before (y ∷ ys) x new =
      let step : firsts same (before ++ y ∷ []) (ys ++ x ∷ []) ≡ firsts same (before ++ y ∷ []) ys ++ x ∷ []
      = firsts-new (before ++ y ∷ []) ys x (rw append_assoc new) in
      let b = list_any (same y) before in
      let f = firsts same (before ++ y ∷ []) ys in
      rw step (elim b as (λ v. (if v then f ++ x ∷ [] else y ∷ (f ++ x ∷ [])) ≡ (if v then f else y ∷ f) ++ x ∷ []) [
        | true ↦ refl
        | false ↦ refl
      ])

  -- the same of the first occurrences of a whole list
  pub distinct-old : (xs : List B) (x : B) → list_any (same x) xs ≡ true → distinct same (xs ++ x ∷ []) ≡ distinct same xs
  distinct-old xs x old = firsts-old [] xs x old

  pub distinct-new : (xs : List B) (x : B) → list_any (same x) xs ≡ false
      → distinct same (xs ++ x ∷ []) ≡ distinct same xs ++ x ∷ []
  distinct-new xs x new = firsts-new [] xs x new

  -- repeats add nothing
  pub distinct-repeats : (xs ys : List B) → Each (λ y. list_any (same y) xs ≡ true) ys → distinct same (xs ++ ys) ≡ distinct same xs
  distinct-repeats xs [] each = ap (distinct same) (append-nil xs)
  distinct-repeats xs (y ∷ ys) each =
      let kept = Each-weaker (λ z. list_any (same z) xs ≡ true) (λ z. list_any (same z) (xs ++ y ∷ []) ≡ true)
      (λ (z : B) (h : list_any (same z) xs ≡ true). list_any-append (same z) xs (y ∷ []) ∙ or-true (list_any (same z) xs) _ h) ys each.1 in
      ap (distinct same) (sym (append_assoc {A = B} xs (y ∷ []) ys)) ∙ distinct-repeats (xs ++ y ∷ []) ys kept ∙ distinct-old xs y each.0

  -- two of one kind are found among the same candidates
  any-same : IsEquivalence same → (x y : B) → same x y ≡ true → (zs : List B) → list_any (same x) zs ≡ list_any (same y) zs
  any-same equiv x y e [] = refl
  any-same equiv x y e (z ∷ zs) =
      let head : same x z ≡ same y z = equiv.congr x y z e in
      let tail = any-same equiv x y e zs in cc

  -- a candidate of a kind that came before leaves what is found
  any-repeat : IsEquivalence same → (xs : List B) (y : B) → list_any (same y) xs ≡ true → (q : B)
      → list_any (same q) (xs ++ y ∷ []) ≡ list_any (same q) xs
  any-repeat equiv xs y old q =
      let last : list_any (same q) (xs ++ y ∷ []) ≡ (list_any (same q) xs || list_any (same q) (y ∷ []))
      = list_any-append (same q) xs (y ∷ []) in
      let found : same q y ≡ true → list_any (same q) xs ≡ true = λ e. any-same equiv q y e xs ∙ old in
      last ∙ elim (same q y) as (λ v. (v ≡ true → list_any (same q) xs ≡ true)
      → (list_any (same q) xs || (v || false)) ≡ list_any (same q) xs)
      [ true ↦ (λ h. rw (h refl)) | false ↦ (λ h. elim (list_any (same q) xs) as (λ a. (a || false) ≡ a) [ true ↦ refl | false ↦ refl ]) ]
      found

  -- and so do repeats
  pub any-repeats : IsEquivalence same → (xs ys : List B) → Each (λ y. list_any (same y) xs ≡ true) ys → (q : B)
      → list_any (same q) (xs ++ ys) ≡ list_any (same q) xs
  any-repeats equiv xs [] each q = ap (list_any (same q)) (append-nil xs)
  any-repeats equiv xs (y ∷ ys) each q =
      let kept = Each-weaker (λ z. list_any (same z) xs ≡ true) (λ z. list_any (same z) (xs ++ y ∷ []) ≡ true)
      (λ (z : B) (h : list_any (same z) xs ≡ true). list_any-append (same z) xs (y ∷ []) ∙ or-true (list_any (same z) xs) _ h) ys each.1 in
      ap (list_any (same q)) (sym (append_assoc {A = B} xs (y ∷ []) ys)) ∙ any-repeats equiv (xs ++ y ∷ []) ys kept q
      ∙ any-repeat equiv xs y each.0 q
