-- What the core answered, as the history tells it.
use Rattle.lb_rebuild_core.specs.declared.answers.Selection.{Selection}
use Rattle.lb_world.proofs.Selections.{Told, drew-so, selects}
use Rattle.lb_world.specs.Answers.{selected}
use Rattle.lb_rebuild_core.proofs.Undrawn.{undrawn}
use Rattle.lb_rebuild_core.specs.GroupCalls.{after_select}
use Rattle.lb_world.specs.Internal.Calls.{selected_as, selection_as}
use Rattle.lb_rebuild_core.specs.GroupHistory as group
use Rattle.lb_rebuild_core.specs.GroupStates as stands
use Rattle.lb_world.proofs.Words.{◌≡◌, Before, EntryNext, EntryValue, Err, GateValue, History, inl, inr, group_events, GroupValue, List}
use Rattle.lb_world.proofs.Words.{load_in, made_of, Meaning, Member, None, Ok, Option, refl, Refusal, RegistryValue, Result, site, Some}
use Rattle.lb_world.proofs.Words.{Step, subst, sym, with_core, WorldRule, ℕ}
use Rattle.lb_world.proofs.Entries.{Moves, next-core, next-refused, unshared}
use Rattle.lb_world.proofs.entry.Entry.select.Goals as goal

-- the answer of a selection that was refused for memory at most, as a history has it
told-selected : (r : Result (Option Member) Refusal) (t : ℕ) → ((e : Refusal) → r ≡ Err e → e ≡ Refusal.OutOfMemory)
    → selected_as r t ≡ selected t r
told-selected (Ok None) t alone = refl
told-selected (Ok (Some b)) t alone = refl
told-selected (Err e) t alone = rw (alone e refl) refl

module _ {C : Type 0} {M : Meaning C} {h : History C} {g : ℕ} {e : EntryValue C} {z : GateValue} {v : RegistryValue WorldRule}
    (b : Before M h g e z v) (s : ℕ) (key : List ℕ) (limit : ℕ) (words : List ℕ) (x : Selection) where
  does-select : {core : GroupValue C}
      → Told M h g s key limit words (made_of e) (site e.core) (load_in e.loads) x (group.slot_events (group_events g h))
      → Moves e (after_select (site e.core) s x (group_events g h)) core
      → EntryNext M h g (Step.select g s key limit words) (selection_as x) e z (with_core core e) z v
  does-select {core} told moves =
      elim (selects M h g s key limit words (made_of e) (site e.core) (load_in e.loads) x b.is.made_is refl b.run b.is.loads_are told) [
        | inl short ↦
            rw short.0 (next-refused b refl short.2 (moves.0, undrawn (site e.core) s (group_events g h) core x short.1 moves.1))
        | inr right ↦
            let drew = drew-so M h g s key limit words (made_of e) (site e.core) (load_in e.loads) x b.is.made_is refl x.answer in
            rw (told-selected x.answer x.tickets right.0)
            (next-core b refl right.1 (moves.0, subst (λ es. stands.Stands (site e.core) es core) (sym drew) moves.1) refl (λ w. refl)
            (λ m. refl) refl (unshared b (Step.select g s key limit words) (selected x.tickets x.answer) refl refl))
      ]

pub returns : goal.returns
returns g c =
    rw (← c.self.view_is, c.answer_of.ensures)
    (λ z h n b.
    does-select b c.args.slot c.args.key.now c.args.limit c.args.words.now c.select-selection.result
    (c.select-selection.ensures.answers _ _ b.kept _ _ b.is.core_is)
    (c.select-selection.ensures.site, c.select-selection.ensures.stands _ _ b.is.core_is))
