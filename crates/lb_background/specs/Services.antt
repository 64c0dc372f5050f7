-- The run of a health check service, by its history; what it was given with an event is the count of targets then.
use Rattle.std.specs.Prelude.{◌≡◌, ℕ, Bool, true, false, not, ◌&&◌, ◌||◌, ◌==◌, List, [], ◌∷◌, Option, Some, None, ⊤, if◌then◌else◌}
use Rattle.lb_background.specs.declared.event.Event.{Event}
use Rattle.lb_background.specs.declared.event.Event.TheVariants as on
use Rattle.lb_background.specs.declared.event.Action.{Action}
use Rattle.lb_background.specs.declared.event.Action.TheVariants as to
use Rattle.lb_background.specs.Schedule.{ScheduleValue, schedule_after, check_finished}
use Rattle.lb_background.specs.Turns.{is_ready, is_check, is_sleep, no_schedule}
use Rattle.lb_background.specs.History.{Heard, is_checked, starts, last, begun, told}

-- how a service is made: with a check, one-time or with a frequency, or with none; with a notifier or without
pub record ServicePlan : Type 0 where
  pub check : Option (Option ℕ)
  pub notifier : Bool

-- what decides the answer to an event: whether the service began, or was shut down, whether the notifier was notified, whether a check
-- was answered since the start, the schedule, and what was answered last
pub record ServiceValue : Type 0 where
  pub plan : ServicePlan
  pub begun : Bool
  pub told : Bool
  pub checked : Bool
  pub schedule : ScheduleValue
  pub last : Action

abbrev pub fresh_service : ServicePlan → ServiceValue
fresh_service p = record { plan = p; begun = false; told = false; checked = false; schedule = no_schedule; last = to.Hold }

abbrev pub with_answer : ServiceValue → Action → ServiceValue
with_answer r a = record { plan = r.plan; begun = r.begun; told = r.told; checked = r.checked; schedule = r.schedule; last = a }

abbrev pub is_waiting : Action → Bool
is_waiting to.WaitTargets = true
is_waiting a = false

abbrev pub is_hold : Action → Bool
is_hold to.Hold = true
is_hold a = false

-- after a check: the end where there is no next moment; else the wait for targets where there are none, or the sleep
abbrev pub rest_until : Option ℕ → ℕ → Action
rest_until None count = to.Return
rest_until (Some moment) count = if count == 0 then to.WaitTargets else to.SleepUntil moment

-- at the start: without a check the wait for the end, with a notifier alone; a check, but that one that is done once awaits a target
abbrev pub opening : Option (Option ℕ) → Bool → ℕ → Action
opening None notifier count = if notifier then to.Hold else to.Return
opening (Some None) notifier count = if count == 0 then to.WaitTargets else to.Check
opening (Some (Some frequency)) notifier count = to.Check

-- what is noted of an event
abbrev pub service_noted : ServiceValue → ℕ → Event → ServiceValue
service_noted r now on.Start =
    if r.begun then r else record {
      plan = r.plan;
      begun = true;
      told = r.told;
      checked = false;
      schedule = schedule_after None r.plan.check now [] [];
      last = r.last;
    }
service_noted r now on.Checked =
    if is_check r.last then record {
      plan = r.plan;
      begun = r.begun;
      told = r.told;
      checked = true;
      schedule = check_finished r.schedule now;
      last = r.last;
    } else r
service_noted r now on.Told =
    if is_ready r.last then record {
      plan = r.plan;
      begun = r.begun;
      told = true;
      checked = r.checked;
      schedule = r.schedule;
      last = r.last;
    } else r
service_noted r now on.Shutdown =
    record { plan = r.plan; begun = true; told = r.told; checked = r.checked; schedule = r.schedule; last = r.last }
service_noted r now e = r

-- the answer to an event that is noted; b says whether the service began before it
abbrev pub service_answer : ServiceValue → Bool → ℕ → Event → Action
service_answer r b count on.Shutdown = to.Return
service_answer r b count on.Start = if b then r.last else opening r.plan.check r.plan.notifier count
service_answer r b count on.Checked =
    if is_check r.last then (if r.plan.notifier && not r.told then to.Ready else rest_until r.schedule.check_next count) else r.last
service_answer r b count on.Told = if is_ready r.last then rest_until r.schedule.check_next count else r.last
service_answer r b count on.Woke = if is_sleep r.last then to.Check else r.last
service_answer r b count on.Targets = if is_waiting r.last then to.Check else r.last
service_answer r b count on.ViewRemoved =
    if r.checked && (is_sleep r.last || is_waiting r.last) then rest_until r.schedule.check_next count else r.last
service_answer r b count on.Closed = if b && is_hold r.last then to.Return else r.last
service_answer r b count e = r.last

-- the moment of the start, and the moments at which checks were answered since, the last one first
abbrev pub start_of : List Heard → Option ℕ
start_of [] = None
start_of (x ∷ h) = if starts x.event h then Some x.at else start_of h

abbrev pub check_moments : List Heard → List ℕ
check_moments [] = []
check_moments (x ∷ h) =
    if starts x.event h then [] else if is_checked x.event (last h) then x.at ∷ check_moments h else check_moments h

abbrev pub some_moment : List ℕ → Bool
some_moment [] = false
some_moment (m ∷ ms) = true

module _ (p : ServicePlan) where
  abbrev pub service_schedule : Option ℕ → List ℕ → ScheduleValue
  service_schedule None ms = no_schedule
  service_schedule (Some made) ms = schedule_after None p.check made [] ms

  abbrev pub service_state : List Heard → ServiceValue
  service_state h = record {
    plan = p;
    begun = begun h;
    told = told h;
    checked = some_moment (check_moments h);
    schedule = service_schedule (start_of h) (check_moments h);
    last = last h;
  }

  -- each answer was right
  abbrev pub IsServiceRun : List Heard → Type 0
  IsServiceRun [] = ⊤
  IsServiceRun (x ∷ h) =
      (x.action ≡ service_answer (with_answer (service_state (x ∷ h)) (last h)) (begun h) x.given x.event) × IsServiceRun h

-- a service has this history
pub record IsServiceAfter (r : ServiceValue) (h : List Heard) : Type 0 where
  pub state : r ≡ service_state r.plan h
  pub run : IsServiceRun r.plan h
