-- Lemmas on runs by turns: what is noted of an event is the state of the longer history.
use Rattle.std.proofs.Common.{◌≡◌, ◌∙◌, ℕ, not, ◌&&◌, List, ◌∷◌, Option, Some, None, Ok, Err}
use Rattle.std.proofs.Common.{refl, ap, sym, subst, inl, inr}
use Rattle.std.proofs.lemmas.Bool.{cases_Bool}
use Rattle.lb_background.specs.declared.event.Event.{Event}
use Rattle.lb_background.specs.declared.event.Event.TheVariants as on
use Rattle.lb_background.specs.declared.event.Action.{Action}
use Rattle.lb_background.specs.declared.event.Action.TheVariants as to
use Rattle.lb_background.specs.Schedule.{ScheduleValue, schedule_value, next_of, update_finished, check_finished}
use Rattle.lb_background.specs.Turns.{Plan, RunValue, is_update, is_ready, is_check, is_sleep, stage, action_at, with_last, noted}
use Rattle.lb_background.specs.History.{Heard, last, begun, told, base, started, updates, checks, schedule_of, state}
use Rattle.lb_background.specs.History.{IsRun, IsAfter, heard}
use Rattle.lb_background.proofs.ScheduleLemmas.{finish_next}

update_noted : (p : Plan) (made : Option ℕ) (b : ℕ) (us cs : List ℕ)
    → update_finished (schedule_of p made us cs) b ≡ schedule_of p made (b ∷ us) cs
update_noted p None b us cs = refl
update_noted p (Some m) b us cs = ap (λ n. schedule_value (Some p.update) n p.check (next_of p.check m cs))
    (finish_next (Some p.update) m b us)

check_noted : (p : Plan) (made : Option ℕ) (b : ℕ) (us cs : List ℕ)
    → check_finished (schedule_of p made us cs) b ≡ schedule_of p made us (b ∷ cs)
check_noted p None b us cs = refl
check_noted p (Some m) b us cs = ap (λ n. schedule_value (Some p.update) (next_of (Some p.update) m us) p.check n)
    (finish_next p.check m b cs)

-- the state with an event, and the answer before it
abbrev seen : Plan → ℕ → ℕ → Event → List Heard → RunValue
seen p now given e h = with_last (state p (heard now given e to.Hold ∷ h)) (last h)

abbrev with_schedule : RunValue → ScheduleValue → RunValue
with_schedule r s = record {
  plan = r.plan;
  begun = r.begun;
  told = r.told;
  base = r.base;
  target = r.target;
  schedule = s;
  last = r.last;
}

noted_state : (p : Plan) (now given : ℕ) (e : Event) (h : List Heard) → noted (state p h) now e ≡ seen p now given e h
noted_state p now given on.Start h = elim (cases_Bool (begun h)) [ inl is ↦ rw is refl | inr other ↦ rw other refl ]
noted_state p now given (on.Updated (Ok g)) h =
    elim (cases_Bool (is_update (last h))) [
      | inl is ↦ rw is (ap (λ s. record {
        plan = p;
        begun = begun h;
        told = told h;
        base = base p h;
        target = Some g;
        schedule = s;
        last = last h;
      })
          (update_noted p (started p h) (base p h) (updates p h) (checks p h)))
      | inr other ↦ rw other refl
    ]
noted_state p now given (on.Updated (Err r)) h =
    elim (cases_Bool (is_update (last h))) [
      | inl is ↦ rw is (ap (λ s. with_schedule (seen p now given (on.Updated (Err r)) h) s)
          (update_noted p (started p h) (base p h) (updates p h) (checks p h)))
      | inr other ↦ rw other refl
    ]
noted_state p now given on.Told h = elim (cases_Bool (is_ready (last h))) [ inl is ↦ rw is refl | inr other ↦ rw other refl ]
noted_state p now given on.Checked h =
    elim (cases_Bool (is_check (last h))) [
      | inl is ↦ rw is (ap (λ s. with_schedule (seen p now given on.Checked h) s)
          (check_noted p (started p h) (base p h) (updates p h) (checks p h)))
      | inr other ↦ rw other refl
    ]
noted_state p now given on.Woke h = elim (cases_Bool (is_sleep (last h))) [ inl is ↦ rw is refl | inr other ↦ rw other refl ]
noted_state p now given on.Rebuilt h =
    elim (cases_Bool (is_sleep (last h) && (p.of_group && p.notifier && not (told h))))
    [ inl is ↦ rw is refl | inr other ↦ rw other refl ]
noted_state p now given on.Targets h = refl
noted_state p now given on.ViewRemoved h = refl
noted_state p now given on.Shutdown h = refl
noted_state p now given on.Closed h = refl

-- a step of a run that has a history
pub stepped : (r : RunValue) (now given : ℕ) (e : Event) (h : List Heard) (a : Action) (n : RunValue)
    → n ≡ with_last (noted r now e) a → a ≡ action_at (noted r now e) (stage r e) given
    → IsAfter r h → IsAfter n (heard now given e a ∷ h)
stepped r now given e h a n is answers after =
    let p = r.plan in
    let notes : noted r now e ≡ seen p now given e h = ap (λ s. noted s now e) after.state ∙ noted_state p now given e h in
    let same : n ≡ state p (heard now given e a ∷ h) = is ∙ ap (λ s. with_last s a) notes in
    let kept : n.plan ≡ p = ap (λ s. s.plan) same in
    let answer : a ≡ action_at (seen p now given e h) (stage (state p h) e) given =
    answers ∙ ap (λ s. action_at s (stage r e) given) notes ∙ ap (λ s. action_at (seen p now given e h) (stage s e) given) after.state in
    record {
      state = subst (λ q. n ≡ state q (heard now given e a ∷ h)) (sym kept) same;
      run = subst (λ q. IsRun q (heard now given e a ∷ h)) (sym kept) (answer, after.run);
    }
