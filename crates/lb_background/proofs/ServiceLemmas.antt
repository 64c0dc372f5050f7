-- Lemmas on the run of a health check service.
use Rattle.std.proofs.Common.{◌≡◌, ◌≢◌, ◌∙◌, ℕ, Bool, true, false, ◌&&◌, ◌||◌, List, [], ◌∷◌, Option, Some, None, refl, ap}
use Rattle.std.proofs.Common.{sym, subst, inl, inr, if◌then◌else◌, arith}
use Rattle.std.proofs.lemmas.Bool.{cases_Bool}
use Rattle.std.proofs.lemmas.Grind.{common_steps}
use Rattle.lb_background.specs.declared.event.Event.{Event}
use Rattle.lb_background.specs.declared.event.Event.TheVariants as on
use Rattle.lb_background.specs.declared.event.Action.{Action}
use Rattle.lb_background.specs.declared.event.Action.TheVariants as to
use Rattle.lb_background.specs.Schedule.{ScheduleValue, schedule_value, check_finished}
use Rattle.lb_background.specs.Turns.{is_ready, is_check, is_sleep}
use Rattle.lb_background.specs.History.{Heard, is_shutdown, last, begun, told, was_shut, heard}
use Rattle.lb_background.specs.Services.{ServicePlan, ServiceValue, service_noted, service_answer, service_state, service_schedule}
use Rattle.lb_background.specs.Services.{with_answer, start_of, check_moments, is_waiting, is_hold, IsServiceRun, IsServiceAfter}
use Rattle.lb_background.proofs.LawLemmas.{falsehood, shut_begun}
use Rattle.lb_background.proofs.ScheduleLemmas.{finish_next}

and_false : (b : Bool) → (b && false) ≡ false
and_false true = refl
and_false false = refl

service_check_noted : (p : ServicePlan) (made : Option ℕ) (b : ℕ) (ms : List ℕ)
    → check_finished (service_schedule p made ms) b ≡ service_schedule p made (b ∷ ms)
service_check_noted p None b ms = refl
service_check_noted p (Some m) b ms = ap (λ n. schedule_value None None p.check n) (finish_next p.check m b ms)

abbrev service_seen : ServicePlan → ℕ → ℕ → Event → List Heard → ServiceValue
service_seen p now given e h = with_answer (service_state p (heard now given e to.Hold ∷ h)) (last h)

abbrev with_service_schedule : ServiceValue → ScheduleValue → ServiceValue
with_service_schedule r s = record { plan = r.plan; begun = r.begun; told = r.told; checked = r.checked; schedule = s; last = r.last }

service_noted_state : (p : ServicePlan) (now given : ℕ) (e : Event) (h : List Heard)
    → service_noted (service_state p h) now e ≡ service_seen p now given e h
service_noted_state p now given on.Start h = elim (cases_Bool (begun h)) [ inl is ↦ rw is refl | inr other ↦ rw other refl ]
service_noted_state p now given (on.Updated u) h = refl
service_noted_state p now given on.Told h = elim (cases_Bool (is_ready (last h))) [ inl is ↦ rw is refl | inr other ↦ rw other refl ]
service_noted_state p now given on.Checked h =
    elim (cases_Bool (is_check (last h))) [
      | inl is ↦ rw is (ap (λ s. record { plan = p; begun = begun h; told = told h; checked = true; schedule = s; last = last h })
          (service_check_noted p (start_of h) now (check_moments h)))
      | inr other ↦ rw other refl
    ]
service_noted_state p now given on.Woke h = refl
service_noted_state p now given on.Rebuilt h = refl
service_noted_state p now given on.Targets h = refl
service_noted_state p now given on.ViewRemoved h = refl
service_noted_state p now given on.Shutdown h = refl
service_noted_state p now given on.Closed h = refl

-- a step of a service that has a history
pub service_stepped : (r : ServiceValue) (now given : ℕ) (e : Event) (h : List Heard) (a : Action) (n : ServiceValue)
    → n ≡ with_answer (service_noted r now e) a → a ≡ service_answer (service_noted r now e) r.begun given e
    → IsServiceAfter r h → IsServiceAfter n (heard now given e a ∷ h)
service_stepped r now given e h a n is answers after =
    let p = r.plan in
    let notes : service_noted r now e ≡ service_seen p now given e h = ap (λ s. service_noted s now e) after.state ∙
    service_noted_state p now given e h in
    let same : n ≡ service_state p (heard now given e a ∷ h) = is ∙ ap (λ s. with_answer s a) notes in
    let kept : n.plan ≡ p = ap (λ s. s.plan) same in
    let began : r.begun ≡ begun h = ap (λ s. s.begun) after.state in
    let answer : a ≡ service_answer (service_seen p now given e h) (begun h) given e =
    answers ∙ ap (λ s. service_answer s r.begun given e) notes ∙ ap (λ b. service_answer (service_seen p now given e h) b given e)
    began in
    record {
      state = subst (λ q. n ≡ service_state q (heard now given e a ∷ h)) (sym kept) same;
      run = subst (λ q. IsServiceRun q (heard now given e a ∷ h)) (sym kept) (answer, after.run);
    }

-- the answers of a service without a check
abbrev settled : Action → Bool
settled to.Hold = true
settled to.Return = true
settled to.Update = false
settled to.Check = false
settled to.Ready = false
settled (to.SleepUntil m) = false
settled to.WaitTargets = false

abbrev unfit : Action → Type 0
unfit a = (is_ready a ≡ false) × (is_check a ≡ false) × (is_sleep a ≡ false) × (is_waiting a ≡ false)

settled_unfit : (a : Action) → settled a ≡ true → unfit a
settled_unfit to.Hold is = (refl, refl, refl, refl)
settled_unfit to.Return is = (refl, refl, refl, refl)
settled_unfit to.Update is = absurd (falsehood is)
settled_unfit to.Check is = absurd (falsehood is)
settled_unfit to.Ready is = absurd (falsehood is)
settled_unfit (to.SleepUntil m) is = absurd (falsehood is)
settled_unfit to.WaitTargets is = absurd (falsehood is)

settled_if : (b : Bool) (a c : Action) → settled a ≡ true → settled c ≡ true → settled (if b then a else c) ≡ true
settled_if true a c is other = is
settled_if false a c is other = other

settled_step : (r : ServiceValue) (b : Bool) (count : ℕ) (e : Event) → r.plan.check ≡ None → settled r.last ≡ true
    → settled (service_answer r b count e) ≡ true
settled_step r b count on.Shutdown none is = refl
settled_step r b count on.Start none is = rw none (settled_if b r.last (if r.plan.notifier then to.Hold else to.Return) is
    (settled_if r.plan.notifier to.Hold to.Return refl refl))
settled_step r b count on.Checked none is = rw ((settled_unfit r.last is).1) is
settled_step r b count on.Told none is = rw ((settled_unfit r.last is).0) is
settled_step r b count on.Woke none is = rw ((settled_unfit r.last is).2) is
settled_step r b count on.Targets none is = rw ((settled_unfit r.last is).3) is
settled_step r b count on.ViewRemoved none is =
    let none_fits : (r.checked && (is_sleep r.last || is_waiting r.last)) ≡ false =
    rw ((settled_unfit r.last is).2, (settled_unfit r.last is).3) (and_false r.checked) in
    rw none_fits is
settled_step r b count on.Closed none is = settled_if (b && is_hold r.last) to.Return r.last refl is
settled_step r b count (on.Updated u) none is = is
settled_step r b count on.Rebuilt none is = is

all_settled : (p : ServicePlan) (h : List Heard) → p.check ≡ None → IsServiceRun p h → settled (last h) ≡ true
all_settled p [] none run = refl
all_settled p (x ∷ h) none run =
    ap settled run.0
    ∙ settled_step (with_answer (service_state p (x ∷ h)) (last h)) (begun h) x.given x.event none (all_settled p h none run.1)

pub no_ready_without_check : (p : ServicePlan) (h : List Heard) → p.check ≡ None → IsServiceRun p h → last h ≢ to.Ready
no_ready_without_check p h none run ready = falsehood (sym (ap settled ready) ∙ all_settled p h none run)

-- a service that was shut down answers `Return`
over_service : (e : Event) (r : ServiceValue) (b : Bool) (g : ℕ) → is_shutdown e ≡ true → service_answer r b g e ≡ to.Return
over_service on.Shutdown r b g is = refl
over_service on.Start r b g is = absurd (falsehood is)
over_service (on.Updated u) r b g is = absurd (falsehood is)
over_service on.Told r b g is = absurd (falsehood is)
over_service on.Checked r b g is = absurd (falsehood is)
over_service on.Woke r b g is = absurd (falsehood is)
over_service on.Rebuilt r b g is = absurd (falsehood is)
over_service on.Targets r b g is = absurd (falsehood is)
over_service on.ViewRemoved r b g is = absurd (falsehood is)
over_service on.Closed r b g is = absurd (falsehood is)

same_if : (b : Bool) (a c : Action) → a ≡ to.Return → c ≡ to.Return → (if b then a else c) ≡ to.Return
same_if true a c is other = is
same_if false a c is other = other

stays_shut : (e : Event) (r : ServiceValue) (g : ℕ) → r.last ≡ to.Return → service_answer r true g e ≡ to.Return
stays_shut on.Shutdown r g l = refl
stays_shut on.Start r g l = l
stays_shut on.Checked r g l = rw l refl
stays_shut on.Told r g l = rw l refl
stays_shut on.Woke r g l = rw l refl
stays_shut on.Targets r g l = rw l refl
stays_shut on.ViewRemoved r g l = rw l (rw (and_false r.checked) refl)
stays_shut on.Closed r g l = rw l refl
stays_shut (on.Updated u) r g l = l
stays_shut on.Rebuilt r g l = l

pub service_shut_returns : (p : ServicePlan) (h : List Heard) → IsServiceRun p h → was_shut h ≡ true → last h ≡ to.Return
service_shut_returns p [] run is = absurd (falsehood is)
service_shut_returns p (x ∷ h) run is =
    let seen = with_answer (service_state p (x ∷ h)) (last h) in
    elim (cases_Bool (was_shut h)) [
      | inl was ↦
          run.0 ∙ ap (λ b. service_answer seen b x.given x.event) (shut_begun h was)
          ∙ stays_shut x.event seen x.given (service_shut_returns p h run.1 was)
      | inr never ↦
          let shuts : is_shutdown x.event ≡ true = grind (arith, common_steps) in
          run.0 ∙ over_service x.event seen (begun h) x.given shuts
    ]
