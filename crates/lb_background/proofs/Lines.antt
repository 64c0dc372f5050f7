-- What the sender's seat of a line may do: store a number, and read the word.
use Rattle.std.proofs.Common.{◌≡◌, ℕ, List, [], ◌∷◌, refl, sym, ap, subst, ⊎_elim, set, ◌∙◌, ◌≤◌, ◌==◌, zero, suc, arith}
use Rattle.atomic_table.specs.Table.{Me, Allows, keeps}
use Rattle.atomic_table.proofs.Lists.{at_set}
use Rattle.std.specs.List.{slice_index}
use Rattle.lb_background.specs.declared.line_rule.SignalMark.{SignalMark}
use Rattle.lb_background.specs.Internal.Lines.{SaysWord, sender}
use Rattle.lb_background.specs.Signals.{event_of, told}

stored : (words : List ℕ) (views : List SignalMark) (old new : ℕ) → SaysWord words views → words ≡ old ∷ []
    → SaysWord (set words 0 new) (set views 0 (sender new))
stored words views old new h here id v e sends =
    ⊎_elim
    (λ t. (t.0, ap (λ (l : List ℕ). set l 0 new) here ∙ ap (λ (m : SignalMark). m.says ∷ []) t.1))
    (λ t. absurd (t.0 (h id v t.1 sends).0))
    (at_set views 0 id (sender new) v e)

stores : (slots old new : ℕ) (c : List (ℕ × Unit {0})) → c ≡ []
    → Allows {S = Unit {0}} {V = SignalMark} (λ s. SaysWord s.words s.views) slots 0 (sender old, c) 0 (λ _. new)
    (λ _ w. w ≡ (sender new, []))
stores slots old new c none s h _ at _ = (
  sender new,
  keeps,
  tt,
  stored s.words s.views old new h (h 0 (sender old) at refl).1,
  ap (λ (l : List (ℕ × Unit {0})). (sender new, l)) none,
)

pub stores_as : (slots old new id : ℕ) (me : Me (Unit {0}) SignalMark) → id ≡ 0 → me ≡ (sender old, [])
    → Allows {S = Unit {0}} {V = SignalMark} (λ s. SaysWord s.words s.views) slots id me 0 (λ _. new) (λ _ w. w ≡ (sender new, []))
stores_as slots old new id me first says =
    let A : ℕ → Me (Unit {0}) SignalMark → Type 0 = λ i m.
    Allows {S = Unit {0}} {V = SignalMark} (λ s. SaysWord s.words s.views) slots i m 0 (λ _. new) (λ _ w. w ≡ (sender new, [])) in
    subst (λ (i : ℕ). A i me) (sym first) (subst (λ (m : Me (Unit {0}) SignalMark). A 0 m) (sym says) (stores slots old new [] refl))

finds : (slots old : ℕ)
    → Allows {S = Unit {0}} {V = SignalMark} (λ s. SaysWord s.words s.views) slots 0 (sender old, []) 0 (λ n. n)
    (λ n w. (n ≡ old) × (w ≡ (sender old, [])))
finds slots old s h _ at _ =
    let here : s.words ≡ old ∷ [] = (h 0 (sender old) at refl).1 in
    let word : slice_index s.words 0 ≡ old = ap (λ (l : List ℕ). slice_index l 0) here in (
      sender old,
      keeps,
      tt,
      subst (λ (n : ℕ). SaysWord (set s.words 0 n) (set s.views 0 (sender old))) (sym word) (stored s.words s.views old old h here),
      (word, refl),
    )

pub finds_as : (slots old id : ℕ) (me : Me (Unit {0}) SignalMark) → id ≡ 0 → me ≡ (sender old, [])
    → Allows {S = Unit {0}} {V = SignalMark} (λ s. SaysWord s.words s.views) slots id me 0 (λ n. n) (λ n w. (n ≡ me.0.says) × (w ≡ me))
finds_as slots old id me first says =
    let A : ℕ → Me (Unit {0}) SignalMark → Type 0 = λ i m.
    Allows {S = Unit {0}} {V = SignalMark} (λ s. SaysWord s.words s.views) slots i m 0 (λ n. n) (λ n w. (n ≡ m.0.says) × (w ≡ m)) in
    subst (λ (i : ℕ). A i me) (sym first) (subst (λ (m : Me (Unit {0}) SignalMark). A 0 m) (sym says) (finds slots old))

-- a word below 2 tells whether the latest is the end
pub tells_latest : (n : ℕ) → n ≤ 1 → event_of n ≡ told (n == 1)
tells_latest zero least = refl
tells_latest (suc zero) least = refl
tells_latest (suc (suc n)) least = absurd (omega (arith, least))
