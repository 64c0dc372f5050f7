-- A selection that draws no ticket leaves a joined group as it was: a counter that is left where it is changes nothing.
use Rattle.std.proofs.Common.{◌≡◌, ◌+◌, ◌==◌, ◌∙◌, ℕ, Bool, true, false, cond, nat_lt, List, [], ◌∷◌, ◌++◌, length, inl, inr, refl, sym, ap}
use Rattle.std.proofs.Common.{subst}
use Rattle.std.proofs.lemmas.Bool.{cases_eq}
use Rattle.lb_rebuild_core.specs.Gate.{GateId}
use Rattle.lb_rebuild_core.specs.SlotsHistory as slots
use Rattle.lb_rebuild_core.specs.SlotsHistory.{Drew, IsPast, drawn, past_of}
use Rattle.lb_rebuild_core.specs.SlotCalls.{drawn_slot}
use Rattle.lb_rebuild_core.specs.Stands.{Made, group_after, slot_after, slots_after}
use Rattle.lb_rebuild_core.specs.declared.answers.Selection.{Selection}
use Rattle.lb_rebuild_core.proofs.Pasts.{past-other, past-same}
use Rattle.lb_rebuild_core.proofs.SlotSteps.{drew-step}
use Rattle.lb_rebuild_core.specs.GroupCalls.{after_select}
use Rattle.lb_rebuild_core.specs.GroupHistory.{History, At, slot_events, in_group}
use Rattle.lb_rebuild_core.specs.GroupStates.{GroupValue, Stands}

module _ {C : Type 0} (gate : GateId) (s t : ℕ) (k : slots.History) (still : t ≡ drawn (past_of s k)) where
  undrawn-slot : (i : ℕ) (c : C) → slot_after gate c (past_of i (slots.At s (Drew t) ∷ k)) ≡ slot_after gate c (past_of i k)
  undrawn-slot i c =
      elim (cases_eq s i) [
        | inl same ↦
            subst (λ j. slot_after gate c (past_of j (slots.At s (Drew t) ∷ k)) ≡ slot_after gate c (past_of j k)) same
            (ap (slot_after gate c) (past-same s (Drew t) k) ∙ sym (drew-step gate c s t (past_of s k))
            ∙ ap (λ n. drawn_slot n (slot_after gate c (past_of s k))) still)
        | inr off ↦ ap (slot_after gate c) (past-other i s (Drew t) k off)
      ]

  undrawn-slots : (i : ℕ) (cs : List C) → slots_after gate i cs (slots.At s (Drew t) ∷ k) ≡ slots_after gate i cs k
  undrawn-slots i [] = refl
  undrawn-slots i (c ∷ cs) = λ j. undrawn-slot i c j ∷ undrawn-slots (i + 1) cs j

module _ {C : Type 0} (made : Made C) (s : ℕ) (e : History) (v : GroupValue C) where
  uncounted : (t : ℕ) → t ≡ drawn (past_of s (slot_events e)) → Stands made (At s (Drew t) ∷ e) v → Stands made e v
  uncounted t still was =
      record {
        few = was.few;
        group =
            record {
              possible = λ i.
                  let p = past_of i (slot_events e) in
                  (elim (s == i) as (λ b. IsPast (cond b (slots.At s (Drew t) ∷ p) p) → IsPast p) [
                    | true ↦ λ may. may.0
                    | false ↦ λ may. may
                  ])
                  (was.group.possible i);
              bounded = was.group.bounded;
              shows = was.group.shows ∙ (λ i. record (group_after made (slot_events e)) {
                slots = undrawn-slots made.gate s t (slot_events e) still 0 made.configs i;
              });
            };
        view = was.view;
      }

  -- whether the slot is there or not
  pub undrawn : (x : Selection) → x.tickets ≡ drawn (past_of s (slot_events e)) → Stands made (after_select made s x e) v → Stands made e v
  undrawn x still = by-place (nat_lt s (length made.configs))
    where
      by-place : (there : Bool) → Stands made (in_group (cond there (slots.At s (Drew x.tickets) ∷ []) []) ++ e) v → Stands made e v
      by-place true was = uncounted x.tickets still was
      by-place false was = was
