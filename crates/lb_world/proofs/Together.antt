-- The events of a group are those of a group that is joined with its view, and to one that isn't made nothing has happened.
use Rattle.std.proofs.Common.{◌≡◌, ◌⊎◌, inl, inr, ◌<◌, ◌==◌, ◌∙◌, ℕ, zero, suc, Bool, true, false, cond, List, [], ◌∷◌, ◌++◌, length}
use Rattle.std.proofs.Common.{refl, sym, ap, arith}
use Rattle.std.specs.Prelude.{Some, None, slice_get}
use Rattle.std.proofs.lemmas.Bool.{eq-eqb, ne_eqb}
use Rattle.std.proofs.lemmas.Option.{none-some, same_Some}
use Rattle.lb_rebuild_core.specs.SlotsHistory as slots
use Rattle.lb_rebuild_core.specs.SlotsCalls.{is_change}
use Rattle.lb_rebuild_core.specs.GroupHistory as group
use Rattle.lb_rebuild_core.specs.GroupHistory.{Shown, in_group, after_settings}
use Rattle.lb_world.specs.Steps.{Step}
use Rattle.lb_world.specs.Steps as step
use Rattle.lb_world.specs.declared.answer.Answer.{Answer}
use Rattle.lb_world.specs.declared.answer.Answer.TheVariants as answer
use Rattle.lb_world.specs.declared.step.Listing.{Listing}
use Rattle.lb_world.specs.Meanings.{Meaning}
use Rattle.lb_world.specs.History.{History, Made, is_at, members_in, made, made_at, group_at}
use Rattle.lb_world.specs.History.{settings_in, slot_events}
use Rattle.lb_world.specs.Answers.{IsRun, Answers, has_refused, refuse}
use Rattle.lb_select_base.specs.declared.refusal.Refusal.TheVariants as refusal
use Rattle.lb_world.specs.GroupEvents.{cells_for, group_events, view_events, views_in, JoinsAlike, SchedulesAlike}
use Rattle.lb_world.proofs.Accepted.{is_lasting, right-is, there, updating, unchanging, right_answer}
use Rattle.lb_world.proofs.Absent.{found, get-front, absent}
use Rattle.lb_world.proofs.Own.{happened, own-step, group-of, joined-after}

true-false : true ≡ false → ⊥
true-false e = absurd (cc)

-- at a group that isn't there
none-joined : (es k : slots.History) → es ++ k ≡ [] → in_group es ≡ []
none-joined [] k e = refl
none-joined (x ∷ es) k e = absurd (cc)

quiet : (b : Bool) (es k : slots.History) (e : group.History) → cond b (es ++ k) k ≡ [] → e ≡ [] → cond b (in_group es ++ e) e ≡ []
quiet true es k e none was = rw (none-joined es k none) was
quiet false es k e none was = was

module _ {C : Type 0} where
  apart : (g i : ℕ) (h : History C) (m : Made C) (new : group.History) → made_at g h ≡ Some m → made_at i h ≡ None → group_events i h ≡ []
      → cond (g == i) new (group_events i h) ≡ []
  apart g i h m new there none was =
      rw (ne_eqb g i (λ at. none-some m (sym none ∙ sym (ap (λ (j : ℕ). made_at j h) at) ∙ there))) was

lasting-address : (b : Bool) (x a : Answer) → is_lasting a ≡ true → cond b (refuse refusal.InvalidAddress) x ≡ a → x ≡ a
lasting-address true x a lasts e = absurd (true-false (sym lasts ∙ ap is_lasting (sym e)))
lasting-address false x a lasts e = e

module _ {C : Type 0} (M : Meaning C) where
  -- an update finds its group
  updated-there : (h : History C) (g now : ℕ) (ls : List Listing) (a : Answer) → is_lasting a ≡ true → Answers M h (step.update g now ls) a
      → (m : Made C) × (made_at g h ≡ Some m)
  updated-there h g now ls a lasts right =
      let is = right-is {C = C} (step.update g now ls) (right_answer M h (step.update g now ls)) a right lasts in
      let m = there (made_at g h) _ a (lasting-address (has_refused ls) _ a lasts is) lasts in (m.0, m.1.0)

  pub nothing-joined : (h : History C) → IsRun M h → (i : ℕ) → made_at i h ≡ None → group_events i h ≡ []
  nothing-joined [] run i none = refl
  nothing-joined ((step.group r a cs, answer.Group n) ∷ h) run i none = nothing-joined h run.0 i (get-front (made h) _ i none)
  nothing-joined ((step.update g now ls, answer.Generation n) ∷ h) run i none =
      let m = updated-there h g now ls (answer.Generation n) refl run.1 in apart g i h m.0 _ m.1 none (nothing-joined h run.0 i none)
  nothing-joined ((step.update g now ls, answer.Same n) ∷ h) run i none =
      let m = updated-there h g now ls (answer.Same n) refl run.1 in apart g i h m.0 _ m.1 none (nothing-joined h run.0 i none)
  nothing-joined ((step.enable g (Some b), answer.Done) ∷ h) run i none =
      let m = found {C = C} (step.enable g (Some b)) (made_at g h) _ answer.Done refl run.1 in
      apart g i h m.0 _ m.1 none (nothing-joined h run.0 i none)
  nothing-joined ((step.disable g (Some b), answer.Done) ∷ h) run i none =
      let m = found {C = C} (step.disable g (Some b)) (made_at g h) _ answer.Done refl run.1 in
      apart g i h m.0 _ m.1 none (nothing-joined h run.0 i none)
  nothing-joined ((st, a) ∷ h) run i none =
      joined-after i h st a
      ∙ quiet (is_at i (group_at h st)) (happened h (slot_events i h) st a) (slot_events i h) (group_events i h)
      (sym (own-step i h st a) ∙ (absent M ((st, a) ∷ h) run i none).events) (nothing-joined h run.0 i none)

pub get-pushed : {X : Type 0} (xs : List X) (y z : X) (i : ℕ) → slice_get (xs ++ y ∷ []) i ≡ Some z
    → ((i ≡ length xs) × (z ≡ y)) ⊎ ((i < length xs) × (slice_get xs i ≡ Some z))
get-pushed [] y z zero e = inl (refl, sym (same_Some y z e))
get-pushed [] y z (suc i) e = absurd (none-some z e)
get-pushed (x ∷ xs) y z zero e = inr (omega arith, e)
get-pushed (x ∷ xs) y z (suc i) e =
    elim (get-pushed xs y z i e) [
      | inl at ↦ inl ((let same : i ≡ length xs = at.0 in omega arith), at.1)
      | inr before ↦ inr ((let low : i < length xs = before.0 in omega arith), before.1)
    ]

-- the events of the view of a group that is made
pub views-of : {C : Type 0} (g : ℕ) (h : History C) (m : Made C) → made_at g h ≡ Some m
    → group.view_events (length m.configs) (group_events g h) ≡ view_events g h
views-of g h m there = sym (ap (λ o. views_in o (group_events g h)) there)

module _ {C : Type 0} (M : Meaning C) where
  pub joins-alike : (h : History C) → IsRun M h → (g : ℕ) → JoinsAlike g h
  joins-alike h run g = group-of g h

  here : (g : ℕ) (v w : group.History) → cond (g == g) v w ≡ v
  here g v w = rw (eq-eqb g g refl) refl

  pub schedules-alike : (h : History C) (st : Step C) (a : Answer) → IsRun M ((st, a) ∷ h) → SchedulesAlike h st a
  schedules-alike h (step.update g now ls) (answer.Generation n) run =
      let change : is_change (members_in ls) (group.slot_events (group_events g h)) ≡ true =
      ap (is_change (members_in ls)) (group-of g h) ∙ (updating M h g now ls n run.1).0 in
      here g _ (group_events g h)
      ∙ sym (ap (λ (b : Bool). after_settings (settings_in ls) (cond b (Shown (members_in ls) (cells_for g ls h) now ∷ group_events g h)
      (group_events g h))) change)
  schedules-alike h (step.update g now ls) (answer.Same n) run =
      let change : is_change (members_in ls) (group.slot_events (group_events g h)) ≡ false =
      ap (is_change (members_in ls)) (group-of g h) ∙ unchanging M h g now ls n run.1 in
      here g _ (group_events g h)
      ∙ sym (ap (λ (b : Bool). after_settings (settings_in ls) (cond b (Shown (members_in ls) (cells_for g ls h) now ∷ group_events g h)
      (group_events g h))) change)
  schedules-alike h st a run = tt
