-- The laws of runs by turns.
use Rattle.std.proofs.Common.{◌≡◌, ◌≢◌, ◌∙◌, ℕ, Bool, true, false, not, ◌&&◌, List, [], ◌∷◌}
use Rattle.std.proofs.Common.{refl, ap, sym, inl, inr, ◌⊎◌, nat_le, arith}
use Rattle.std.proofs.lemmas.Bool.{cases_Bool}
use Rattle.std.proofs.lemmas.Bool.Decides.{nat_tests}
use Rattle.std.proofs.lemmas.Grind.{common_steps}
use Rattle.lb_background.specs.declared.event.Event.{Event}
use Rattle.lb_background.specs.declared.event.Event.TheVariants as on
use Rattle.lb_background.specs.declared.event.Action.{Action}
use Rattle.lb_background.specs.declared.event.Action.TheVariants as to
use Rattle.lb_background.specs.declared.turns.TurnStage.{TurnStage}
use Rattle.lb_background.specs.declared.turns.TurnStage.TheVariants as at
use Rattle.lb_background.specs.Schedule.{due, is_idle}
use Rattle.lb_background.specs.Turns.{Plan, RunValue, is_update, is_ready, is_check, is_sleep, awaits, stage, action_at, at_turn}
use Rattle.lb_background.specs.Turns.{at_tell, at_check, at_rest, has_reached, is_within, with_last}
use Rattle.lb_background.specs.History.{Heard, is_shutdown, last, was_shut, begun, target, state, right}
use Rattle.lb_background.specs.History.{IsRun, HasUpdated, heard}

pub falsehood : false ≡ true → ⊥
falsehood i = cc

-- a shutdown is answered `Return`, and so is what comes after it
over_returns : (e : Event) (r s : RunValue) (g : ℕ) → is_shutdown e ≡ true → action_at s (stage r e) g ≡ to.Return
over_returns on.Shutdown r s g is = refl
over_returns on.Start r s g is = absurd (falsehood is)
over_returns (on.Updated u) r s g is = absurd (falsehood is)
over_returns on.Told r s g is = absurd (falsehood is)
over_returns on.Checked r s g is = absurd (falsehood is)
over_returns on.Woke r s g is = absurd (falsehood is)
over_returns on.Rebuilt r s g is = absurd (falsehood is)
over_returns on.Targets r s g is = absurd (falsehood is)
over_returns on.ViewRemoved r s g is = absurd (falsehood is)
over_returns on.Closed r s g is = absurd (falsehood is)

stays_over : (e : Event) (r s : RunValue) (g : ℕ) → r.begun ≡ true → r.last ≡ to.Return → s.last ≡ to.Return
    → action_at s (stage r e) g ≡ to.Return
stays_over on.Shutdown r s g b l m = refl
stays_over on.Start r s g b l m = rw b m
stays_over (on.Updated u) r s g b l m = rw l m
stays_over on.Told r s g b l m = rw l m
stays_over on.Checked r s g b l m = rw l m
stays_over on.Woke r s g b l m = rw l m
stays_over on.Rebuilt r s g b l m = rw l m
stays_over on.Targets r s g b l m = m
stays_over on.ViewRemoved r s g b l m = m
stays_over on.Closed r s g b l m = m

pub shut_begun : (h : List Heard) → was_shut h ≡ true → begun h ≡ true
shut_begun [] is = absurd (falsehood is)
shut_begun (x ∷ h) is =
    elim (cases_Bool (was_shut h)) [
      | inl was ↦ let b = shut_begun h was in grind (arith, common_steps)
      | inr never ↦ grind (arith, common_steps)
    ]

pub shut_returns : (p : Plan) (h : List Heard) → IsRun p h → was_shut h ≡ true → last h ≡ to.Return
shut_returns p [] run is = absurd (falsehood is)
shut_returns p (x ∷ h) run is =
    elim (cases_Bool (was_shut h)) [
      | inl was ↦
          let l = shut_returns p h run.1 was in
          run.0 ∙ stays_over x.event (state p h) (with_last (state p (x ∷ h)) (last h)) x.given (shut_begun h was) l l
      | inr never ↦
          let shuts : is_shutdown x.event ≡ true = grind (arith, common_steps) in
          run.0 ∙ over_returns x.event (state p h) (with_last (state p (x ∷ h)) (last h)) x.given shuts
    ]

-- answers that may come before an update was answered
abbrev quiet : Action → Bool
quiet to.Update = true
quiet to.Check = false
quiet to.Ready = false
quiet (to.SleepUntil m) = false
quiet to.WaitTargets = false
quiet to.Hold = true
quiet to.Return = true

ready_loud : (a : Action) → is_ready a ≡ true → quiet a ≡ true → ⊥
ready_loud to.Ready is q = falsehood q
ready_loud to.Update is q = falsehood is
ready_loud to.Check is q = falsehood is
ready_loud (to.SleepUntil m) is q = falsehood is
ready_loud to.WaitTargets is q = falsehood is
ready_loud to.Hold is q = falsehood is
ready_loud to.Return is q = falsehood is

check_loud : (a : Action) → is_check a ≡ true → quiet a ≡ true → ⊥
check_loud to.Check is q = falsehood q
check_loud to.Update is q = falsehood is
check_loud to.Ready is q = falsehood is
check_loud (to.SleepUntil m) is q = falsehood is
check_loud to.WaitTargets is q = falsehood is
check_loud to.Hold is q = falsehood is
check_loud to.Return is q = falsehood is

sleep_loud : (a : Action) → is_sleep a ≡ true → quiet a ≡ true → ⊥
sleep_loud (to.SleepUntil m) is q = falsehood q
sleep_loud to.Update is q = falsehood is
sleep_loud to.Check is q = falsehood is
sleep_loud to.Ready is q = falsehood is
sleep_loud to.WaitTargets is q = falsehood is
sleep_loud to.Hold is q = falsehood is
sleep_loud to.Return is q = falsehood is

abbrev Early : Action → List Heard → Type 0
Early a h = (quiet a ≡ true) ⊎ HasUpdated h

-- an answer that repeats the last one, and one after an answer that isn't quiet
repeated : (x : Heard) (h : List Heard) → x.action ≡ last h → Early (last h) h → Early x.action (x ∷ h)
repeated x h same (inl q) = inl (ap quiet same ∙ q)
repeated x h same (inr has) = inr (inr has)

louder : (x : Heard) (h : List Heard) → (quiet (last h) ≡ true → ⊥) → Early (last h) h → Early x.action (x ∷ h)
louder x h loud (inl q) = absurd (loud q)
louder x h loud (inr has) = inr (inr has)

due_now : (now : ℕ) → nat_le now now ≡ true
due_now now = grind (arith, nat_tests)

early_step : (p : Plan) (now g : ℕ) (e : Event) (a : Action) (h : List Heard) → a ≡ right p (heard now g e a) h → Early (last h) h
    → Early a (heard now g e a ∷ h)
early_step p now g on.Shutdown a h is before = inl (ap quiet is)
early_step p now g on.Start a h is before =
    elim (cases_Bool (begun h)) [
      | inl b ↦ repeated (heard now g on.Start a) h (is ∙ rw b refl) before
      | inr b ↦ let updates : a ≡ to.Update = is ∙ rw b (rw (due_now now) refl) in inl (ap quiet updates)
    ]
early_step p now g (on.Updated u) a h is before =
    elim (cases_Bool (is_update (last h))) [
      | inl b ↦ inr (inl b)
      | inr b ↦ repeated (heard now g (on.Updated u) a) h (is ∙ rw b refl) before
    ]
early_step p now g on.Told a h is before =
    elim (cases_Bool (is_ready (last h))) [
      | inl b ↦ louder (heard now g on.Told a) h (ready_loud (last h) b) before
      | inr b ↦ repeated (heard now g on.Told a) h (is ∙ rw b refl) before
    ]
early_step p now g on.Checked a h is before =
    elim (cases_Bool (is_check (last h))) [
      | inl b ↦ louder (heard now g on.Checked a) h (check_loud (last h) b) before
      | inr b ↦ repeated (heard now g on.Checked a) h (is ∙ rw b refl) before
    ]
early_step p now g on.Woke a h is before =
    elim (cases_Bool (is_sleep (last h))) [
      | inl b ↦ louder (heard now g on.Woke a) h (sleep_loud (last h) b) before
      | inr b ↦ repeated (heard now g on.Woke a) h (is ∙ rw b refl) before
    ]
early_step p now g on.Rebuilt a h is before =
    elim (cases_Bool (is_sleep (last h))) [
      | inl b ↦ louder (heard now g on.Rebuilt a) h (sleep_loud (last h) b) before
      | inr b ↦ repeated (heard now g on.Rebuilt a) h (is ∙ rw b refl) before
    ]
early_step p now g on.Targets a h is before = repeated (heard now g on.Targets a) h is before
early_step p now g on.ViewRemoved a h is before = repeated (heard now g on.ViewRemoved a) h is before
early_step p now g on.Closed a h is before = repeated (heard now g on.Closed a) h is before

early : (p : Plan) (h : List Heard) → IsRun p h → Early (last h) h
early p [] run = inl refl
early p (x ∷ h) run = early_step p x.at x.given x.event x.action h run.0 (early p h run.1)

pub ready_after_update : (p : Plan) (h : List Heard) → IsRun p h → last h ≡ to.Ready → HasUpdated h
ready_after_update p h run ready =
    elim (early p h run) [ inl q ↦ absurd (ready_loud (last h) (ap is_ready ready) q) | inr has ↦ has ]

-- a `Ready` that repeats nothing comes from the line of the notifier
rest_not_ready : (s : RunValue) → at_rest s ≡ to.Ready → ⊥
rest_not_ready s is =
    elim (cases_Bool (not (awaits s) && is_idle s.schedule)) [
      | inl b ↦ falsehood (sym (rw b refl) ∙ ap is_ready is)
      | inr b ↦ falsehood (sym (rw b refl) ∙ ap is_ready is)
    ]

check_not_ready : (s : RunValue) → at_check s ≡ to.Ready → ⊥
check_not_ready s is =
    elim (cases_Bool (due s.schedule.check_next s.base)) [
      | inl b ↦ falsehood (sym (rw b refl) ∙ ap is_ready is)
      | inr b ↦ rest_not_ready s (sym (rw b refl) ∙ is)
    ]

tell_reached : (s : RunValue) (g : ℕ) → at_tell s g ≡ to.Ready → has_reached s g ≡ true
tell_reached s g is =
    elim (cases_Bool (s.plan.notifier && not s.told && has_reached s g)) [
      | inl b ↦ grind (arith, common_steps)
      | inr b ↦ absurd (check_not_ready s (sym (rw b refl) ∙ is))
    ]

turn_reached : (s : RunValue) (g : ℕ) → at_turn s g ≡ to.Ready → has_reached s g ≡ true
turn_reached s g is =
    elim (cases_Bool (due s.schedule.update_next s.base)) [
      | inl b ↦ absurd (falsehood (sym (rw b refl) ∙ ap is_ready is))
      | inr b ↦ tell_reached s g (sym (rw b refl) ∙ is)
    ]

stage_reached : (st : TurnStage) (s : RunValue) (g : ℕ) → action_at s st g ≡ to.Ready → s.last ≢ to.Ready → has_reached s g ≡ true
stage_reached at.Begin s g is new = turn_reached s g is
stage_reached at.Turn s g is new = turn_reached s g is
stage_reached at.Tell s g is new = tell_reached s g is
stage_reached at.Check s g is new = absurd (check_not_ready s is)
stage_reached at.Rest s g is new = absurd (rest_not_ready s is)
stage_reached at.Over s g is new = absurd (falsehood (ap is_ready is))
stage_reached at.Stay s g is new = absurd (new is)

pub ready_where_served : (p : Plan) (x : Heard) (h : List Heard) → p.of_group ≡ true → IsRun p (x ∷ h) → x.action ≡ to.Ready
    → last h ≢ to.Ready → is_within (target (x ∷ h)) x.given ≡ true
ready_where_served p x h group run ready new =
    let seen = with_last (state p (x ∷ h)) (last h) in
    let reached : has_reached seen x.given ≡ true = stage_reached (stage (state p h) x.event) seen x.given (sym run.0 ∙ ready) new in
    sym (rw group refl) ∙ reached
