-- An entry into a slot that was just asked what it serves, and a selection by whichever words were drawn.
use Rattle.std.proofs.Common.{◌≡◌, ◌⊎◌, ◌∙◌, ◌==◌, ℕ, List, [], ◌∷◌, Bool, true, false, cond, nat_lt, length, refl, sym, subst, inl, inr}
use Rattle.std.proofs.Common.{Option, Some, None, Result, Ok, Err}
use Rattle.lb_select_base.specs.declared.refusal.Refusal.{Refusal}
use Rattle.lb_select_base.specs.declared.refusal.Refusal.TheVariants as refusal
use Rattle.lb_select_base.specs.Backends.{Member, same_member}
use Rattle.lb_select_base.specs.Draws.{Draw, Gives}
use Rattle.lb_select_base.specs.Selections.{Selects}
use Rattle.lb_rebuild_core.specs.SlotsHistory.{past_of, served, readers}
use Rattle.lb_rebuild_core.specs.SlotsCalls.{at_slot, Enters}
use Rattle.lb_rebuild_core.specs.Stands.{Made}
use Rattle.lb_rebuild_core.specs.Values.{ReaderValue}
use Rattle.lb_rebuild_core.specs.GroupHistory.{History, slot_events}
use Rattle.lb_rebuild_core.specs.GroupStates.{GroupValue, IsFounded, After}
use Rattle.lb_threads_group.specs.Shared.{SelectsByAny}

-- what is said of a slot is said of one that is there
told_if : (b : Bool) (s g : ℕ) → cond b (Some s) None ≡ Some g → (b ≡ true) × (s ≡ g)
told_if true s g is = (refl, cc)
told_if false s g is = absurd (cc)

-- a slot that is there is refused for its readers alone
cause_if : (b full : Bool) (e : Refusal) → b ≡ true → cond b (cond full (Some refusal.NumbersExhausted) None) (Some refusal.NoSuch) ≡ Some e
    → e ≡ refusal.NumbersExhausted
cause_if true true e there is = cc
cause_if true false e there is = absurd (cc)
cause_if false full e there is = absurd (cc)

memory_or : {A B : Type 0} (e : Refusal) → (A → e ≡ refusal.NumbersExhausted) → A ⊎ (B × (e ≡ refusal.OutOfMemory))
    → (e ≡ refusal.NumbersExhausted) ⊎ (e ≡ refusal.OutOfMemory)
memory_or e known (inl is) = inl (known is)
memory_or e known (inr is) = inr is.1

module _ {C : Type 0} where
  -- the group that was borrowed is the same one
  pub founded_as : {u v : GroupValue C} → u ≡ v → IsFounded u → IsFounded v
  founded_as same p = subst (λ (x : GroupValue C). IsFounded x) same p

  pub told_as : {u v : GroupValue C} {P : Made C → History → Type 0} → u ≡ v → After u P → After v P
  told_as {u} {v} {P} same tells = subst (λ (x : GroupValue C). After x P) same tells

  pub entered_ok : {v : GroupValue C} {o : Option ℕ} {slot g : ℕ} (r : ReaderValue C) → IsFounded v
      → After v (λ made e. o ≡ at_slot made slot (served (past_of slot (slot_events e)))) → o ≡ Some g
      → (let a : Result (ReaderValue C) Refusal = Ok r in After v (λ made e. Enters made (slot_events e) slot a))
      → (r.slot ≡ slot) × (r.generation ≡ g)
  entered_ok {v} {o} {slot} {g} r p tells is enters =
      let made = p.0 in
      let e = p.1.0 in
      let there = told_if (nat_lt slot (length made.configs)) (served (past_of slot (slot_events e))) g (sym (tells made e p.1.1) ∙ is) in
      let told = enters made e p.1.1 in
      (told.1, told.2 ∙ there.1)

  pub entered_err : {v : GroupValue C} {o : Option ℕ} {g : ℕ} (slot : ℕ) (x : Refusal) → IsFounded v
      → After v (λ made e. o ≡ at_slot made slot (served (past_of slot (slot_events e)))) → o ≡ Some g
      → (let a : Result (ReaderValue C) Refusal = Err x in After v (λ made e. Enters made (slot_events e) slot a))
      → (x ≡ refusal.NumbersExhausted) ⊎ (x ≡ refusal.OutOfMemory)
  entered_err {v} {o} {g} slot x p tells is enters =
      let made = p.0 in
      let e = p.1.0 in
      let past = past_of slot (slot_events e) in
      let there = told_if (nat_lt slot (length made.configs)) (served past) g (sym (tells made e p.1.1) ∙ is) in
      memory_or x (cause_if (nat_lt slot (length made.configs)) (readers (served past) past == 18446744073709551615) x there.0)
      (enters made e p.1.1)

any_words : (ds : List Draw) → Gives {S = Unit {0}} (λ s d t. Unit {0}) tt ds tt
any_words [] = refl
any_words (d ∷ ds) = (tt, tt, any_words ds)

-- what is selected by the words of a source is selected by some words
pub selects_by_any : {S : Type 0} (accepts : Member → Bool → Type 0) (limit : ℕ) (gives : S → Draw → S → Type 0)
    (walks : List Draw → List Member → Bool → Type 0) (s t : S) (r : Result (Option Member) Refusal)
    → Selects same_member accepts limit gives walks s r t → SelectsByAny accepts limit walks r
selects_by_any accepts limit gives walks s t (Ok o) (cs, ended, w, is) =
    (cs, ended, record { draws = w.draws; drawn = any_words w.draws; walked = w.walked }, is)
selects_by_any accepts limit gives walks s t (Err e) (memory, either) = (memory, inl refl)
