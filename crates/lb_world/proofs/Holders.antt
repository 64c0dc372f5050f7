-- Of the slots on a gate one has an extra exactly while the gate's permit is out.
use Rattle.std.proofs.Common.{◌≡◌, ◌⊎◌, inl, inr, ◌==◌, ◌∙◌, ℕ, Bool, true, false, cond, refl, sym, ap}
use Rattle.std.specs.Prelude.{Option, Some}
use Rattle.std.proofs.lemmas.Bool.{eq-eqb, ne_eqb, false≢true, false_from_ne_true}
use Rattle.std.proofs.lemmas.Option.{same_Some}
use mathlib.Core.Logic.{dite}
use native.Mathlib.Decide.{ℕ_discrete}

-- With the gate of each slot, and whether each slot has an extra: of the slots on the gate a none has, or one alone.
abbrev pub HeldBy : (ℕ → ℕ → Option ℕ) → (ℕ → ℕ → Bool) → ℕ → Bool → Type 0
HeldBy G X a false = (i r : ℕ) → G i r ≡ Some a → X i r ≡ false
HeldBy G X a true =
    (g : ℕ) × (s : ℕ) × (G g s ≡ Some a) × (X g s ≡ true) × ((i r : ℕ) → G i r ≡ Some a → X i r ≡ true → (i ≡ g) × (r ≡ s))

module _ (G : ℕ → ℕ → Option ℕ) (X Y : ℕ → ℕ → Bool) where
  pub still : (a : ℕ) (o : Bool) → ((i r : ℕ) → Y i r ≡ X i r) → HeldBy G X a o → HeldBy G Y a o
  still a false same held = λ i r on. same i r ∙ held i r on
  still a true same held =
      (held.0, held.1, held.2, same held.0 held.1 ∙ held.3, λ i r on has. held.4 i r on (sym (same i r) ∙ has))

  none-has : (a : ℕ) (o : Bool) → o ≡ false → HeldBy G X a o → (i r : ℕ) → G i r ≡ Some a → X i r ≡ false
  none-has a true e held i r on = absurd (cc)
  none-has a false e held i r on = held i r on

  pub one-has : (g s a : ℕ) (o : Bool) → G g s ≡ Some a → X g s ≡ true → HeldBy G X a o
      → (i r : ℕ) → G i r ≡ Some a → X i r ≡ true → (i ≡ g) × (r ≡ s)
  one-has g s a true on has held i r there has_too =
      let mine = held.4 g s on has in
      let theirs = held.4 i r there has_too in
      (theirs.0 ∙ sym mine.0, theirs.1 ∙ sym mine.1)
  one-has g s a false on has held i r there has_too = absurd (false≢true (sym (held g s on) ∙ has))

  -- a gate on which a slot has an extra is out
  pub out-then : (g s a : ℕ) (o : Bool) → G g s ≡ Some a → X g s ≡ true → HeldBy G X a o → o ≡ true
  out-then g s a true on has held = refl
  out-then g s a false on has held = absurd (false≢true (sym (held g s on) ∙ has))

  -- a slot that is not on the gate does not count
  aside : (g s a b : ℕ) (o : Bool) → G g s ≡ Some b → ¬ (b ≡ a) → ((i r : ℕ) → ¬ ((i ≡ g) × (r ≡ s)) → Y i r ≡ X i r)
      → HeldBy G X a o → HeldBy G Y a o
  aside g s a b o on off else_ held =
      let apart : (i r : ℕ) → G i r ≡ Some a → ¬ ((i ≡ g) × (r ≡ s)) =
      λ i r there e. off (same_Some b a (sym on ∙ sym (ap (λ (j : ℕ). G j s) e.0) ∙ sym (ap (G i) e.1) ∙ there)) in
      by o held apart
    where
      by : (t : Bool) → HeldBy G X a t → ((i r : ℕ) → G i r ≡ Some a → ¬ ((i ≡ g) × (r ≡ s))) → HeldBy G Y a t
      by false h apart = λ i r there. else_ i r (apart i r there) ∙ h i r there
      by true h apart = (
        h.0,
        h.1,
        h.2,
        else_ h.0 h.1 (apart h.0 h.1 h.2) ∙ h.3,
        λ i r there has. h.4 i r there (sym (else_ i r (apart i r there)) ∙ has),
      )

  -- a free gate grants a slot
  pub granted : (g s a b : ℕ) (o : Bool) → G g s ≡ Some b → (b ≡ a → o ≡ false) → HeldBy G X a o → Y g s ≡ true
      → ((i r : ℕ) → ¬ ((i ≡ g) × (r ≡ s)) → Y i r ≡ X i r) → HeldBy G Y a (cond (b == a) true o)
  granted g s a b o on free held has else_ =
      dite (ℕ_discrete b a)
      (λ at.
      rw (eq-eqb b a at) (
        g,
        s,
        on ∙ ap Some at,
        has,
        λ i r there has_too.
            dite (ℕ_discrete i g)
            (λ same.
            dite (ℕ_discrete r s) (λ same_too. (same, same_too))
            (λ off. absurd (false≢true (sym (else_ i r (λ e. off e.1) ∙ none-has a o (free at) held i r there) ∙ has_too))))
            (λ off. absurd (false≢true (sym (else_ i r (λ e. off e.0) ∙ none-has a o (free at) held i r there) ∙ has_too))),
      ))
      (λ off. rw (ne_eqb b a off) (aside g s a b o on off else_ held))

  -- a slot gives the permit back
  pub returned : (g s a b : ℕ) (o : Bool) → G g s ≡ Some b → HeldBy G X a o → X g s ≡ true → Y g s ≡ false
      → ((i r : ℕ) → ¬ ((i ≡ g) × (r ≡ s)) → Y i r ≡ X i r) → HeldBy G Y a (cond (b == a) false o)
  returned g s a b o on held has gone else_ =
      dite (ℕ_discrete b a)
      (λ at.
      rw (eq-eqb b a at)
      (λ i r there.
      dite (ℕ_discrete i g)
      (λ same.
      dite (ℕ_discrete r s)
      (λ same_too. ap (λ (j : ℕ). Y j r) same ∙ ap (Y g) same_too ∙ gone)
      (λ off. else_ i r (λ e. off e.1) ∙ false_from_ne_true (X i r) (λ x. off (one-has g s a o (on ∙ ap Some at) has held i r there x).1)))
      (λ off. else_ i r (λ e. off e.0) ∙ false_from_ne_true (X i r) (λ x. off (one-has g s a o (on ∙ ap Some at) has held i r there x).0))))
      (λ off. rw (ne_eqb b a off) (aside g s a b o on off else_ held))

-- a group is made, in which no slot has an extra
pub grown : (G H : ℕ → ℕ → Option ℕ) (X : ℕ → ℕ → Bool) (a : ℕ) (o : Bool) → ((i r b : ℕ) → G i r ≡ Some b → H i r ≡ Some b)
    → ((i r : ℕ) → (H i r ≡ G i r) ⊎ (X i r ≡ false)) → HeldBy G X a o → HeldBy H X a o
grown G H X a false keeps new held = λ i r on. elim (new i r) [ inl same ↦ held i r (sym same ∙ on) | inr none ↦ none ]
grown G H X a true keeps new held = (
  held.0,
  held.1,
  keeps held.0 held.1 a held.2,
  held.3,
  λ i r on has.
      elim (new i r) [ inl same ↦ held.4 i r (sym same ∙ on) has | inr none ↦ absurd (false≢true (sym none ∙ has)) ],
)
