-- What a run by turns does with an event: what it notes, where its turn goes on, and what it answers.
use Rattle.std.specs.Prelude.{ℕ, Bool, true, false, not, ◌&&◌, [], Option, Some, None, Ok, nat_le}
use Rattle.std.specs.Prelude.{if◌then◌else◌}
use Rattle.lb_background.specs.declared.event.Event.{Event}
use Rattle.lb_background.specs.declared.event.Event.TheVariants as on
use Rattle.lb_background.specs.declared.event.Action.{Action}
use Rattle.lb_background.specs.declared.event.Action.TheVariants as to
use Rattle.lb_background.specs.declared.turns.TurnStage.{TurnStage}
use Rattle.lb_background.specs.declared.turns.TurnStage.TheVariants as at
use Rattle.lb_background.specs.Schedule.{ScheduleValue, schedule_after, update_finished, check_finished, due, is_idle, next_moment}

-- how a run is made: of a group or of a balancer, with the frequency of updates, one-time where there is none, with a task of checks
-- where it owns them, and with a notifier or without
pub record Plan : Type 0 where
  pub of_group : Bool
  pub update : Option ℕ
  pub check : Option (Option ℕ)
  pub notifier : Bool

-- what a run is after some events: whether it began, or was shut down; whether the notifier was notified; the moment of its turn; the
-- generation of the last successful update; its schedule; what it answered last
pub record RunValue : Type 0 where
  pub plan : Plan
  pub begun : Bool
  pub told : Bool
  pub base : ℕ
  pub target : Option ℕ
  pub schedule : ScheduleValue
  pub last : Action

abbrev pub no_schedule : ScheduleValue
no_schedule = schedule_after None None 0 [] []

abbrev pub fresh : Plan → RunValue
fresh p = record { plan = p; begun = false; told = false; base = 0; target = None; schedule = no_schedule; last = to.Hold }

abbrev pub is_update : Action → Bool
is_update to.Update = true
is_update a = false

abbrev pub is_ready : Action → Bool
is_ready to.Ready = true
is_ready a = false

abbrev pub is_check : Action → Bool
is_check to.Check = true
is_check a = false

abbrev pub is_sleep : Action → Bool
is_sleep (to.SleepUntil m) = true
is_sleep a = false

-- whether the notifier of a group waits for the slots
abbrev pub awaits : RunValue → Bool
awaits r = r.plan.of_group && r.plan.notifier && not r.told

-- where a turn goes on after an event: `Stay` where the event doesn't fit what was answered last
abbrev pub stage : RunValue → Event → TurnStage
stage r on.Shutdown = at.Over
stage r on.Start = if r.begun then at.Stay else at.Begin
stage r (on.Updated u) = if is_update r.last then at.Tell else at.Stay
stage r on.Told = if is_ready r.last then at.Check else at.Stay
stage r on.Checked = if is_check r.last then at.Rest else at.Stay
stage r on.Woke = if is_sleep r.last then at.Turn else at.Stay
stage r on.Rebuilt = if is_sleep r.last && awaits r then at.Turn else at.Stay
stage r on.Targets = at.Stay
stage r on.ViewRemoved = at.Stay
stage r on.Closed = at.Stay

-- the generation of an update that succeeded, else the one before
abbrev pub target_of : Event → Option ℕ → Option ℕ
target_of (on.Updated (Ok g)) before = Some g
target_of e before = before

-- what is noted of an event, by where the turn goes on
abbrev pub noted_at : TurnStage → RunValue → ℕ → Event → RunValue
noted_at at.Begin r now e = record {
  plan = r.plan;
  begun = true;
  told = r.told;
  base = now;
  target = r.target;
  last = r.last;
  schedule = schedule_after (Some r.plan.update) r.plan.check now [] [];
}
noted_at at.Turn r now e = record {
  plan = r.plan;
  begun = r.begun;
  told = r.told;
  base = now;
  target = r.target;
  last = r.last;
  schedule = r.schedule;
}
noted_at at.Tell r now e = record {
  plan = r.plan;
  begun = r.begun;
  told = r.told;
  base = r.base;
  target = target_of e r.target;
  last = r.last;
  schedule = update_finished r.schedule r.base;
}
noted_at at.Check r now e = record {
  plan = r.plan;
  begun = r.begun;
  told = true;
  base = r.base;
  target = r.target;
  last = r.last;
  schedule = r.schedule;
}
noted_at at.Rest r now e = record {
  plan = r.plan;
  begun = r.begun;
  told = r.told;
  base = r.base;
  target = r.target;
  last = r.last;
  schedule = check_finished r.schedule r.base;
}
noted_at at.Over r now e = record {
  plan = r.plan;
  begun = true;
  told = r.told;
  base = r.base;
  target = r.target;
  last = r.last;
  schedule = r.schedule;
}
noted_at at.Stay r now e = r

abbrev pub noted : RunValue → ℕ → Event → RunValue
noted r now e = noted_at (stage r e) r now e

abbrev pub with_last : RunValue → Action → RunValue
with_last r a = record {
  plan = r.plan;
  begun = r.begun;
  told = r.told;
  base = r.base;
  target = r.target;
  schedule = r.schedule;
  last = a;
}

-- whether each slot of a group serves what was updated last; nothing is waited for in a balancer
abbrev pub is_within : Option ℕ → ℕ → Bool
is_within None least = false
is_within (Some g) least = nat_le g least

abbrev pub has_reached : RunValue → ℕ → Bool
has_reached r least = if not r.plan.of_group then true else is_within r.target least

-- what is to be done in a turn, from its end to its begin
abbrev pub at_rest : RunValue → Action
at_rest r = if not (awaits r) && is_idle r.schedule then to.Return else to.SleepUntil (next_moment r.schedule r.base)

abbrev pub at_check : RunValue → Action
at_check r = if due r.schedule.check_next r.base then to.Check else at_rest r

abbrev pub at_tell : RunValue → ℕ → Action
at_tell r least = if r.plan.notifier && not r.told && has_reached r least then to.Ready else at_check r

abbrev pub at_turn : RunValue → ℕ → Action
at_turn r least = if due r.schedule.update_next r.base then to.Update else at_tell r least

abbrev pub action_at : RunValue → TurnStage → ℕ → Action
action_at r at.Begin least = at_turn r least
action_at r at.Turn least = at_turn r least
action_at r at.Tell least = at_tell r least
action_at r at.Check least = at_check r
action_at r at.Rest least = at_rest r
action_at r at.Over least = to.Return
action_at r at.Stay least = r.last
