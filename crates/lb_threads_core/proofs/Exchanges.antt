-- Taking the value out of a lock and putting it back keep the lock's rule.
use Rattle.std.proofs.Common.{◌≡◌, ◌<◌, ◌∙◌, ℕ, List, [], ◌∷◌, length, Option, Some, refl, sym, ap, subst, set, arith}
use Rattle.std.specs.List.{slice_index}
use mathlib.Core.Option as maybe
use mathlib.Core.Logic.{dite}
use native.Mathlib.Decide.{ℕ_discrete}
use lib.ListN.{get_elem?}
use Rattle.atomic_table.specs.Table.{Me, Allows, Arrives, keeps, takes, gives, rest, put_back}
use Rattle.lb_threads_core.specs.Keyed.{FreeIsHome, Took}

never : (n : ℕ) → 0 < n → n ≡ 0 → ⊥
never n e z = omega (arith, e, z)

set_one : (n : ℕ) (ws : List ℕ) → ws ≡ slice_index ws 0 ∷ [] → set ws 0 n ≡ n ∷ []
set_one n ws e = subst (λ (l : List ℕ). set l 0 n ≡ n ∷ []) (sym e) refl

set_home : {A : Type 0} (x : A) (hs : List A) → length hs ≡ 1 → set hs 0 x ≡ x ∷ []
set_home x [] e = absurd (omega (arith, e))
set_home x (h ∷ []) e = refl
set_home x (h ∷ k ∷ hs) e = absurd (omega (arith, e))

module _ {T : Type 0} (holds : T → Type 0) where
  -- a word n is stored, and where it is 0 the value is at home
  stored : (n : ℕ) (ws : List ℕ) (homes : List (maybe.Option (Option T))) → ws ≡ slice_index ws 0 ∷ []
      → (n ≡ 0 → (value : T) × (homes ≡ maybe.some (Some value) ∷ []) × holds value) → FreeIsHome holds (set ws 0 n) homes
  stored n ws homes one free =
      subst (λ (l : List ℕ). FreeIsHome holds l homes) (sym (set_one n ws one)) (record { one = refl; free = free })

put_home : {T : Type 0} (homes : List (maybe.Option (Option T))) (held : List (ℕ × Option T)) (value : T) → length homes ≡ 1
    → held ≡ (0, Some value) ∷ [] → put_back homes held ≡ maybe.some (Some value) ∷ []
put_home {T} homes held value one has =
    ap (λ (l : List (ℕ × Option T)). put_back homes l) has ∙ set_home (maybe.some (Some value)) homes one

module _ {T K : Type 0} (holds : T → Type 0) where
  -- a swap by a new seat takes the value, where it finds the lock free
  pub comes : (key : K) (slots word : ℕ) → 0 < word
      → Arrives {S = Option T} {V = K} (λ s. FreeIsHome holds s.words s.homes) slots 0 (λ _. word) (λ n w. Took {K = K} holds n w)
  comes key slots word some s keeps_rule _ _ =
      dite (ℕ_discrete (slice_index s.words 0) 0)
      (λ e.
      let f = keeps_rule.free e in (
        key,
        takes 0 (Some f.0),
        subst (λ (h : List (maybe.Option (Option T))). get_elem? h 0 ≡ maybe.some (maybe.some (Some f.0))) (sym f.1) refl,
        stored holds word s.words _ keeps_rule.one (λ z. absurd (never word some z)),
        λ _. (f.0, refl, f.2),
      ))
      (λ n. (key, keeps, tt, stored holds word s.words s.homes keeps_rule.one (λ z. absurd (never word some z)), λ e. absurd (n e)))

  -- the holder of the value puts it back by storing 0
  pub goes : (slots id : ℕ) (me : Me (Option T) K) (value : T) → slots ≡ 1 → me.1 ≡ (0, Some value) ∷ [] → holds value
      → Allows {S = Option T} {V = K} (λ s. FreeIsHome holds s.words s.homes) slots id me 0 (λ _. 0) (λ _ _. Unit {0})
  goes slots id me value one has fact s keeps_rule count _ _ = (
    me.0,
    gives,
    tt,
    stored holds 0 s.words (put_back s.homes me.1) keeps_rule.one (λ _. (value, put_home s.homes me.1 value (count ∙ one) has, fact)),
    tt,
  )

-- a seat that has one slot has no other
pub alone : {S : Type 0} (i : ℕ) (x : S) (held : List (ℕ × S)) → held ≡ (i, x) ∷ [] → held ≡ (i, x) ∷ rest held
alone {S} i x held e = e ∙ ap (λ (l : List (ℕ × S)). (i, x) ∷ rest l) (sym e)

-- what an exchange of the only slot that a seat has leaves
pub exchanged : {S V : Type 0} (i : ℕ) (x y : S) (old new : Me S V) → old.1 ≡ (i, x) ∷ [] → new ≡ (old.0, (i, y) ∷ rest old.1)
    → new.1 ≡ (i, y) ∷ []
exchanged {S} {V} i x y old new has e =
    ap (λ (m : Me S V). m.1) e ∙ ap (λ (l : List (ℕ × S)). (i, y) ∷ rest l) has
