-- A loop that drives a service: what holds before each event, and that a service never asks for an update.
use Rattle.std.proofs.Common.{◌≡◌, ◌≢◌, ◌∙◌, ℕ, Bool, true, false, not, ◌&&◌, ◌||◌, ◌==◌, List, [], ◌∷◌, Option, Some, None, refl, sym, ap}
use Rattle.std.proofs.Common.{if◌then◌else◌}
use Rattle.lb_background.specs.declared.event.Event.{Event}
use Rattle.lb_background.specs.declared.event.Event.TheVariants as on
use Rattle.lb_background.specs.declared.event.Action.{Action}
use Rattle.lb_background.specs.declared.event.Action.TheVariants as to
use Rattle.lb_background.specs.Turns.{is_ready, is_check, is_sleep, is_update}
use Rattle.lb_background.specs.History.{Heard, heard, last, begun}
use Rattle.lb_background.specs.Services.{ServicePlan, ServiceValue, IsServiceRun, IsServiceAfter, service_answer, service_state}
use Rattle.lb_background.specs.Services.{service_noted}
use Rattle.lb_background.specs.Services.{with_answer, opening, rest_until, is_waiting, is_hold}
use Rattle.lb_background.proofs.LawLemmas.{falsehood}
use Rattle.lb_background.proofs.ServiceLemmas.{service_stepped}
use Rattle.lb_background.specs.ServiceDriven.{is_asked}

one_of : (b : Bool) (a c : Action) → is_update a ≡ false → is_update c ≡ false → is_update (if b then a else c) ≡ false
one_of true a c is other = is
one_of false a c is other = other

opens : (check : Option (Option ℕ)) (notifier : Bool) (count : ℕ) → is_update (opening check notifier count) ≡ false
opens None notifier count = one_of notifier to.Hold to.Return refl refl
opens (Some None) notifier count = one_of (count == 0) to.WaitTargets to.Check refl refl
opens (Some (Some f)) notifier count = refl

rests : (next : Option ℕ) (count : ℕ) → is_update (rest_until next count) ≡ false
rests None count = refl
rests (Some m) count = one_of (count == 0) to.WaitTargets (to.SleepUntil m) refl refl

no_update : (r : ServiceValue) (b : Bool) (count : ℕ) (e : Event) → is_update r.last ≡ false
    → is_update (service_answer r b count e) ≡ false
no_update r b count on.Shutdown is = refl
no_update r b count on.Start is =
    one_of b r.last (opening r.plan.check r.plan.notifier count) is (opens r.plan.check r.plan.notifier count)
no_update r b count on.Checked is =
    let rest = rest_until r.schedule.check_next count in
    let ready = r.plan.notifier && not r.told in
    one_of (is_check r.last) (if ready then to.Ready else rest) r.last
    (one_of ready to.Ready rest refl (rests r.schedule.check_next count)) is
no_update r b count on.Told is =
    one_of (is_ready r.last) (rest_until r.schedule.check_next count) r.last (rests r.schedule.check_next count) is
no_update r b count on.Woke is = one_of (is_sleep r.last) to.Check r.last refl is
no_update r b count on.Targets is = one_of (is_waiting r.last) to.Check r.last refl is
no_update r b count on.ViewRemoved is =
    one_of (r.checked && (is_sleep r.last || is_waiting r.last)) (rest_until r.schedule.check_next count) r.last
    (rests r.schedule.check_next count) is
no_update r b count on.Closed is = one_of (b && is_hold r.last) to.Return r.last refl is
no_update r b count (on.Updated u) is = is
no_update r b count on.Rebuilt is = is

pub never_updates : (p : ServicePlan) (h : List Heard) → IsServiceRun p h → is_update (last h) ≡ false
never_updates p [] run = refl
never_updates p (x ∷ h) run =
    ap is_update run.0 ∙ no_update (with_answer (service_state p (x ∷ h)) (last h)) (begun h) x.given x.event (never_updates p h run.1)

asks : (a : Action) → is_update a ≡ false → a ≢ to.Return → is_asked a ≡ true
asks to.Update is more = absurd (falsehood (sym is))
asks to.Check is more = refl
asks to.Ready is more = refl
asks (to.SleepUntil m) is more = refl
asks to.WaitTargets is more = refl
asks to.Hold is more = refl
asks to.Return is more = absurd (more refl)

-- what a step of a service answers, but for the end, is what a service asks for
pub service_stepped_asks : (r : ServiceValue) (now given : ℕ) (e : Event) (h : List Heard) (a : Action) (n : ServiceValue)
    → n ≡ with_answer (service_noted r now e) a → a ≡ service_answer (service_noted r now e) r.begun given e
    → IsServiceAfter r h → a ≢ to.Return → is_asked a ≡ true
service_stepped_asks r now given e h a n is answers after more =
    let x = heard now given e a in
    asks a (never_updates n.plan (x ∷ h) (service_stepped r now given e h a n is answers after).run) more
