-- To a group that isn't there nothing has happened.
use Rattle.std.proofs.Common.{◌≡◌, ◌⊎◌, inl, inr, ◌<◌, ◌==◌, ◌&&◌, ◌∙◌, ℕ, zero, suc, Bool, true, false, cond, List, [], ◌∷◌, ◌++◌, refl}
use Rattle.std.proofs.Common.{sym, ap, subst, arith}
use Rattle.std.specs.Prelude.{Option, Some, None, slice_get}
use Rattle.std.proofs.lemmas.Bool.{ne_eqb}
use Rattle.std.proofs.lemmas.Option.{none-some}
use mathlib.Core.Logic.{dite}
use native.Mathlib.Decide.{ℕ_discrete}
use Rattle.lb_rebuild_core.specs.SlotsHistory as slots
use Rattle.lb_rebuild_core.specs.SlotsHistory.{At, past_of, readers}
use Rattle.lb_world.specs.Steps.{Step}
use Rattle.lb_world.specs.Steps as step
use Rattle.lb_world.specs.declared.answer.Answer.{Answer}
use Rattle.lb_world.specs.declared.answer.Answer.TheVariants as answer
use Rattle.lb_world.specs.Meanings.{Meaning}
use Rattle.lb_world.specs.History.{History, Made, Entered, Work, idle, building, built, is_at, group_in, slot_in, config_in, config}
use Rattle.lb_world.specs.History.{made, made_at, group_at, works_at, worked, work, slot_events, past}
use Rattle.lb_world.specs.Answers.{IsRun, without_memory, has_refused, at_one}
use Rattle.lb_world.specs.Promises.{Untouched}
use Rattle.lb_world.proofs.Placing.{same-either}
use Rattle.lb_world.proofs.Accepted.{there, right-is, granting, leaving, unrefused-address, right_answer}
use Rattle.lb_world.proofs.Runs.{reading}
use Rattle.lb_world.proofs.Own.{drew, happened, own_after, own-step}

-- an answer that is no refusal
abbrev pub is_refusal : Answer → Bool
is_refusal (answer.Refused r) = true
is_refusal a = false

true-false : true ≡ false → ⊥
true-false e = absurd (cc)

-- what is there where a step was not refused
pub found : {A C : Type 0} (st : Step C) (o : Option A) (f : A → Answer) (a : Answer) → is_refusal a ≡ false
    → (a ≡ at_one o f) ⊎ (a ≡ without_memory st (at_one o f)) → (x : A) × (o ≡ Some x)
found st None f a lasts right = absurd (true-false (sym (elim right [ inl e ↦ ap is_refusal e | inr e ↦ ap is_refusal e ]) ∙ lasts))
found st (Some x) f a lasts right = (x, refl)

pub config-made : {C : Type 0} (s : ℕ) (o : Option (Made C)) (c : C) → config_in s o ≡ Some c → (m : Made C) × (o ≡ Some m)
config-made s None c e = absurd (none-some c e)
config-made s (Some m) c e = (m, refl)

pub get-front : {X : Type 0} (xs : List X) (y : X) (i : ℕ) → slice_get (xs ++ y ∷ []) i ≡ None → slice_get xs i ≡ None
get-front [] y i e = refl
get-front (x ∷ xs) y zero e = absurd (none-some x (sym e))
get-front (x ∷ xs) y (suc i) e = get-front xs y i e

beyond : (b c : Bool) (x y : Work) → b ≡ false → cond (b && c) x y ≡ y
beyond true c x y e = absurd (cc)
beyond false c x y e = refl

module _ {C : Type 0} where
  apart-from : (g i : ℕ) (h : History C) (m : Made C) → made_at g h ≡ Some m → made_at i h ≡ None → ¬ (g ≡ i)
  apart-from g i h m there none at = none-some m (sym none ∙ sym (ap (λ (j : ℕ). made_at j h) at) ∙ there)

  elsewhere : (h : History C) (g i : ℕ) (m : Made C) → made_at g h ≡ Some m → made_at i h ≡ None → Untouched i h
      → (N : slots.History) → cond (g == i) N (slot_events i h) ≡ []
  elsewhere h g i m there none was N =
      ap (λ (b : Bool). cond b N (slot_events i h)) (ne_eqb g i (apart-from g i h m there none)) ∙ was.events

  works-on : (h : History C) (g i : ℕ) (m : Made C) → made_at g h ≡ Some m → made_at i h ≡ None → Untouched i h
      → (b : Bool) (w : Work) (s : ℕ) → cond (g == i && b) w (work i s h) ≡ idle
  works-on h g i m there none was b w s =
      beyond (g == i) b w (work i s h) (ne_eqb g i (apart-from g i h m there none)) ∙ was.works s

  -- a step leaves a group untouched
  record Leaves (i : ℕ) (h : History C) (st : Step C) (a : Answer) : Type 0 where
    events : own_after i h st a ≡ []
    works : (s : ℕ) → work i s ((st, a) ∷ h) ≡ idle

  quiet : (h : History C) (st : Step C) (a : Answer) (i : ℕ) → Untouched i h → happened h (slot_events i h) st a ≡ []
      → ((w : Work) → worked st a w ≡ w) → Leaves i h st a
  quiet h st a i was none kept =
      record {
        events = ap (λ (es : slots.History). cond (is_at i (group_at h st)) (es ++ slot_events i h) (slot_events i h)) none
            ∙ same-either (is_at i (group_at h st)) (slot_events i h) ∙ was.events;
        works = λ s. ap (λ (w : Work). cond (works_at i s st) w (work i s h)) (kept (work i s h))
            ∙ same-either (works_at i s st) (work i s h) ∙ was.works s;
      }

module _ {C : Type 0} (M : Meaning C) where
  -- a step at a slot that answers no refusal finds its group
  at-config : (h : History C) (st : Step C) (g s : ℕ) (f : C → Answer) (a : Answer) → is_refusal a ≡ false
      → (a ≡ at_one (config g s h) f) ⊎ (a ≡ without_memory st (at_one (config g s h) f)) → (m : Made C) × (made_at g h ≡ Some m)
  at-config h st g s f a lasts right = let c = found st (config g s h) f a lasts right in config-made s (made_at g h) c.0 c.1

  drawn : (h : History C) (g s t i : ℕ) → Untouched i h → made_at i h ≡ None
      → cond (g == i) (drew (config g s h) s t ++ slot_events i h) (slot_events i h) ≡ []
  drawn h g s t i was none =
      dite (ℕ_discrete g i)
      (λ at.
      let gone : config g s h ≡ None = ap (config_in s) (ap (λ (j : ℕ). made_at j h) at ∙ none) in
      ap (λ (o : Option C). cond (g == i) (drew o s t ++ slot_events i h) (slot_events i h)) gone
      ∙ same-either (g == i) (slot_events i h) ∙ was.events)
      (λ off. ap (λ (b : Bool). cond b (drew (config g s h) s t ++ slot_events i h) (slot_events i h)) (ne_eqb g i off) ∙ was.events)

  nobody : (n : ℕ) (h : History C) (i s : ℕ) → Untouched i h → 0 < readers n (past i s h) → ⊥
  nobody n h i s was some =
      let none : readers n (past i s h) ≡ 0 = ap (λ (k : slots.History). readers n (past_of s k)) was.events in omega arith

  absent-step : (h : History C) (st : Step C) (a : Answer) → IsRun M ((st, a) ∷ h)
      → ((i : ℕ) → made_at i h ≡ None → Untouched i h) → (i : ℕ) → made_at i ((st, a) ∷ h) ≡ None → Leaves i h st a
  absent-step h (step.group r a cs) (answer.Group n) run before i none =
      let was = before i (get-front (made h) _ i none) in record { events = was.events; works = was.works }
  absent-step h (step.update g now ls) (answer.Generation n) run before i none =
      let was = before i none in
      let told = right-is {C = C} (step.update g now ls) (right_answer M h (step.update g now ls)) (answer.Generation n) run.1 refl in
      let m = there (made_at g h) _ (answer.Generation n) (unrefused-address (has_refused ls) _ n told) refl in
      record { events = elsewhere h g i m.0 m.1.0 none was _; works = was.works }
  absent-step h (step.ask g s now) (answer.Build n) run before i none =
      let was = before i none in
      let m = granting M h g s now n run.1 in
      record {
        events = elsewhere h g i m.made_by m.made_is none was _;
        works = λ q. works-on h g i m.made_by m.made_is none was (s == q) building q;
      }
  absent-step h (step.build g s now) (answer.Built n) run before i none =
      let was = before i none in
      let m = at-config h (step.build g s now) g s _ (answer.Built n) refl run.1 in
      record {
        events = elsewhere h g i m.0 m.1 none was (slot_events i h);
        works = λ q. works-on h g i m.0 m.1 none was (s == q) (built now) q;
      }
  absent-step h (step.build g s now) (answer.BuildFailed n e) run before i none =
      let was = before i none in
      let m = at-config h (step.build g s now) g s _ (answer.BuildFailed n e) refl run.1 in
      record { events = elsewhere h g i m.0 m.1 none was _; works = λ q. works-on h g i m.0 m.1 none was (s == q) idle q }
  absent-step h (step.failbuild g s now) (answer.Failed n) run before i none =
      let was = before i none in
      let m = at-config h (step.failbuild g s now) g s _ (answer.Failed n) refl run.1 in
      record { events = elsewhere h g i m.0 m.1 none was _; works = λ q. works-on h g i m.0 m.1 none was (s == q) idle q }
  absent-step h (step.lost g s) (answer.Lost n) run before i none =
      let was = before i none in
      let m = at-config h (step.lost g s) g s _ (answer.Lost n) refl run.1 in
      record { events = elsewhere h g i m.0 m.1 none was _; works = was.works }
  absent-step h (step.publish g s) (answer.Published n) run before i none =
      let was = before i none in
      let m = at-config h (step.publish g s) g s _ (answer.Published n) refl run.1 in
      record { events = elsewhere h g i m.0 m.1 none was _; works = λ q. works-on h g i m.0 m.1 none was (s == q) idle q }
  absent-step h (step.publish g s) (answer.Abandoned n) run before i none =
      let was = before i none in
      let m = at-config h (step.publish g s) g s _ (answer.Abandoned n) refl run.1 in
      record { events = elsewhere h g i m.0 m.1 none was _; works = λ q. works-on h g i m.0 m.1 none was (s == q) idle q }
  absent-step h (step.abandon g s) (answer.Abandoned n) run before i none =
      let was = before i none in
      let m = at-config h (step.abandon g s) g s _ (answer.Abandoned n) refl run.1 in
      record { events = elsewhere h g i m.0 m.1 none was _; works = λ q. works-on h g i m.0 m.1 none was (s == q) idle q }
  absent-step h (step.enter g s) (answer.Reader t n) run before i none =
      let was = before i none in
      let m = at-config h (step.enter g s) g s _ (answer.Reader t n) refl run.1 in
      record { events = elsewhere h g i m.0 m.1 none was _; works = was.works }
  absent-step h (step.leave t) (answer.Left n) run before i none =
      let was = before i none in
      let l = leaving M h t n run.1 in
      let e : Entered = l.0 in
      let some = reading M h run.0 t n e l.1.0 l.1.1 in
      let off : ¬ (e.group ≡ i) = λ at. nobody n h i e.slot was (subst (λ (j : ℕ). 0 < readers n (past j e.slot h)) at some) in
      record {
        events =
            subst
            (λ (o : Option (Option Entered)). cond (is_at i (group_in o)) (At (slot_in o) (slots.Left n) ∷ slot_events i h)
            (slot_events i h) ≡ [])
            (sym l.1.0)
            (ap (λ (b : Bool). cond b (At e.slot (slots.Left n) ∷ slot_events i h) (slot_events i h)) (ne_eqb e.group i off) ∙ was.events);
        works = was.works;
      }
  absent-step h (step.destroy g s) answer.Destroyed run before i none =
      let was = before i none in
      let m = at-config h (step.destroy g s) g s _ answer.Destroyed refl run.1 in
      record { events = elsewhere h g i m.0 m.1 none was _; works = was.works }
  absent-step h (step.select g s key limit words) (answer.Backend b t) run before i none =
      let was = before i none in record { events = drawn h g s t i was none; works = was.works }
  absent-step h (step.select g s key limit words) (answer.NoBackend t) run before i none =
      let was = before i none in record { events = drawn h g s t i was none; works = was.works }
  absent-step h (step.select g s key limit words) (answer.NotSelected t) run before i none =
      let was = before i none in record { events = drawn h g s t i was none; works = was.works }
  absent-step h (step.cancel g) answer.Cancelled run before i none =
      let was = before i none in
      let m = found {C = C} (step.cancel g) (made_at g h) _ answer.Cancelled refl run.1 in
      record { events = elsewhere h g i m.0 m.1 none was _; works = was.works }
  absent-step h st a run before i none = quiet h st a i (before i none) refl (λ w. refl)

  pub absent : (h : History C) → IsRun M h → (i : ℕ) → made_at i h ≡ None → Untouched i h
  absent [] run i none = record { events = refl; works = λ s. refl }
  absent ((st, a) ∷ h) run i none =
      let now = absent-step h st a run (absent h run.0) i none in record { events = own-step i h st a ∙ now.events; works = now.works }
