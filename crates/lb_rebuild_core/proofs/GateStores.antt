-- A store by the writing seat of a gate keeps the gate's rule.
use Rattle.std.proofs.Common.{◌≡◌, ℕ, List, [], ◌∷◌, refl, sym, ap, subst, ⊎_elim, set, ◌∙◌}
use Rattle.atomic_table.specs.Table.{Me, Allows, keeps}
use Rattle.atomic_table.proofs.Lists.{at_set}
use Rattle.lb_rebuild_core.specs.declared.gate_rule.GateMark.{GateMark}
use Rattle.lb_rebuild_core.specs.Internal.GateRule.{SaysWord, writer}

stores : {S : Type 0} (slots old new : ℕ) (c : List (ℕ × S)) → c ≡ []
    → Allows {S = S} {V = GateMark} (λ s. SaysWord s.words s.views) slots 0 (writer old, c) 0 (λ _. new) (λ _ w. w ≡ (writer new, []))
stores {S} slots old new c none s h _ at _ =
    let here : s.words ≡ old ∷ [] = (h 0 (writer old) at refl).1 in
    let each : SaysWord (set s.words 0 new) (set s.views 0 (writer new)) = λ id v e writes.
    ⊎_elim
    (λ t. (t.0, ap (λ (l : List ℕ). set l 0 new) here ∙ ap (λ (m : GateMark). m.says ∷ []) t.1))
    (λ t. absurd (t.0 (h id v t.1 writes).0))
    (at_set s.views 0 id (writer new) v e) in
    (writer new, keeps, tt, each, ap (λ (l : List (ℕ × S)). (writer new, l)) none)

pub stores_as : {S : Type 0} (slots old new id : ℕ) (me : Me S GateMark) → id ≡ 0 → me ≡ (writer old, [])
    → Allows {S = S} {V = GateMark} (λ s. SaysWord s.words s.views) slots id me 0 (λ _. new) (λ _ w. w ≡ (writer new, []))
stores_as {S} slots old new id me first says =
    let A : ℕ → Me S GateMark → Type 0 = λ i m. Allows {S = S} {V = GateMark} (λ s. SaysWord s.words s.views) slots i m 0 (λ _. new)
    (λ _ w. w ≡ (writer new, [])) in
    subst (λ (i : ℕ). A i me) (sym first) (subst (λ (m : Me S GateMark). A 0 m) (sym says) (stores slots old new [] refl))
