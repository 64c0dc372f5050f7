-- What happens to a group, and what can be seen of its slots after it: each as one short recursion over the events.
use Rattle.std.specs.Prelude.{◌≡◌, ◌==◌, ◌&&◌, ◌||◌, ◌+◌, ◌-◌, ◌*◌, ◌^◌, ◌<◌, ℕ, Bool, true, false, not, min, max, nat_lt, List, [], ◌∷◌}
use Rattle.std.specs.Prelude.{filter, Option, Some, None, if◌then◌else◌}
use Rattle.lb_select_base.specs.Backends.{Member}
use Rattle.lb_rebuild_core.specs.declared.answers.Timing.{Timing}
use Rattle.std.specs.Prelude.{Option, Some, None, if◌then◌else◌}

-- What happens at a slot. A moment is in nanoseconds; a list is the members of the job or of the selector that came back.
pub data SlotEvent : Type 0 where
  -- the slot got a job
  Granted : ℕ → SlotEvent
  -- a job came back unbuilt
  Failed : ℕ → List Member → SlotEvent
  -- a selector came, whose build ended at that moment, and is served
  Published : ℕ → List Member → SlotEvent
  -- a selector came and is retired unserved
  Abandoned : List Member → SlotEvent
  -- the worker of a flight is lost; its job or selector may still come back
  WorkerLost : SlotEvent
  -- the retired selector was taken out to be destroyed
  TakenOut : SlotEvent
  -- the selector that was taken out is reported destroyed
  Destroyed : SlotEvent
  Entered : SlotEvent
  -- a reader of that generation left
  Left : ℕ → SlotEvent
  -- a selection or a reader of what is served left its counter of tickets there
  Drew : ℕ → SlotEvent
  -- a reader of the retired selector left that one's counter of tickets there
  DrewRetired : ℕ → SlotEvent

-- what happens to a group: a changed membership at a moment, its cancellation, or something at one slot
pub data SlotsEvent : Type 0 where
  Scheduled : List Member → ℕ → SlotsEvent
  Cancelled : SlotsEvent
  At : ℕ → SlotEvent → SlotsEvent

-- the newest event first
abbrev pub History : Type 0
History = List SlotsEvent

-- A slot's past has the group's memberships, its cancellation, and what happened at the slot. All that follows reads a past;
-- what is the group's alone reads the same of the whole history.
abbrev pub reaches : ℕ → SlotsEvent → Bool
reaches i (Scheduled ms now) = true
reaches i Cancelled = true
reaches i (At j e) = j == i

abbrev pub past_of : ℕ → History → History
past_of i h = filter (reaches i) h

-- the number of memberships so far, which is the newest generation
abbrev pub newest : History → ℕ
newest [] = 0
newest (Scheduled ms now ∷ h) = newest h + 1
newest (e ∷ h) = newest h

-- the membership of generation n, and its moment
abbrev pub members_of : ℕ → History → List Member
members_of n [] = []
members_of n (Scheduled ms now ∷ h) = if newest h + 1 == n then ms else members_of n h
members_of n (e ∷ h) = members_of n h

abbrev pub scheduled_at : ℕ → History → ℕ
scheduled_at n [] = 0
scheduled_at n (Scheduled ms now ∷ h) = if newest h + 1 == n then now else scheduled_at n h
scheduled_at n (e ∷ h) = scheduled_at n h

abbrev pub is_cancelled : History → Bool
is_cancelled [] = false
is_cancelled (Cancelled ∷ h) = true
is_cancelled (e ∷ h) = is_cancelled h

-- the generation of the last job, and the moment it was asked for
abbrev pub granted : History → ℕ
granted [] = 0
granted (At i (Granted now) ∷ h) = newest h
granted (e ∷ h) = granted h

abbrev pub asked_at : History → ℕ
asked_at [] = 0
asked_at (At i (Granted now) ∷ h) = now
asked_at (e ∷ h) = asked_at h

-- the generation that is served, and the members of its selector
abbrev pub served : History → ℕ
served [] = 0
served (At i (Published ended ms) ∷ h) = granted h
served (e ∷ h) = served h

abbrev pub served_members : History → List Member
served_members [] = []
served_members (At i (Published ended ms) ∷ h) = ms
served_members (e ∷ h) = served_members h

-- The members that the next job of the newest generation has: those of the membership, or those that a job or a selector of
-- that generation had which came back unserved.
abbrev pub order_members : History → List Member
order_members [] = []
order_members (Scheduled ms now ∷ h) = ms
order_members (At i (Failed now ms) ∷ h) = if granted h == newest h then ms else order_members h
order_members (At i (Abandoned ms) ∷ h) = if granted h == newest h then ms else order_members h
order_members (e ∷ h) = order_members h

-- the members of the last job
abbrev pub granted_members : History → List Member
granted_members [] = []
granted_members (At i (Granted now) ∷ h) = order_members h
granted_members (e ∷ h) = granted_members h

-- What a slot has apart from what it serves, each with its generation: a flight from its job on, a lost flight, a retired
-- selector, or one that was taken out and is not yet reported destroyed.
pub data Extra : Type 0 where
  nothing : Extra
  flight : ℕ → Extra
  lost : ℕ → Extra
  retired : ℕ → Extra
  taken_out : ℕ → Extra

abbrev pub is_flight : Extra → Bool
is_flight nothing = false
is_flight (flight n) = true
is_flight (lost n) = false
is_flight (retired n) = false
is_flight (taken_out n) = false

abbrev pub is_extra : Extra → Bool
is_extra nothing = false
is_extra (flight n) = true
is_extra (lost n) = true
is_extra (retired n) = true
is_extra (taken_out n) = true

-- a flight or a lost flight of that generation
abbrev pub is_under_way : ℕ → Extra → Bool
is_under_way n nothing = false
is_under_way n (flight m) = m == n
is_under_way n (lost m) = m == n
is_under_way n (retired m) = false
is_under_way n (taken_out m) = false

abbrev pub is_lost_of : ℕ → Extra → Bool
is_lost_of n nothing = false
is_lost_of n (flight m) = false
is_lost_of n (lost m) = m == n
is_lost_of n (retired m) = false
is_lost_of n (taken_out m) = false

abbrev pub is_retired_of : ℕ → Extra → Bool
is_retired_of n nothing = false
is_retired_of n (flight m) = false
is_retired_of n (lost m) = false
is_retired_of n (retired m) = m == n
is_retired_of n (taken_out m) = false

abbrev pub is_taken_out : Extra → Bool
is_taken_out nothing = false
is_taken_out (flight n) = false
is_taken_out (lost n) = false
is_taken_out (retired n) = false
is_taken_out (taken_out n) = true

-- the generation of what was taken out
abbrev pub taken_out_number : Extra → Option ℕ
taken_out_number nothing = None
taken_out_number (flight n) = None
taken_out_number (lost n) = None
taken_out_number (retired n) = None
taken_out_number (taken_out n) = Some n

-- the generation of a flight, or 0
abbrev pub flight_number : Extra → ℕ
flight_number nothing = 0
flight_number (flight n) = n
flight_number (lost n) = 0
flight_number (retired n) = 0
flight_number (taken_out n) = 0

-- the generation of whatever is there, or 0
abbrev pub generation_of : Extra → ℕ
generation_of nothing = 0
generation_of (flight n) = n
generation_of (lost n) = n
generation_of (retired n) = n
generation_of (taken_out n) = n

abbrev pub extra : History → Extra
extra [] = nothing
extra (At i (Granted now) ∷ h) = flight (newest h)
extra (At i (Failed now ms) ∷ h) = nothing
extra (At i (Published ended ms) ∷ h) = retired (served h)
extra (At i (Abandoned ms) ∷ h) = retired (granted h)
extra (At i WorkerLost ∷ h) = lost (granted h)
extra (At i TakenOut ∷ h) = taken_out (generation_of (extra h))
extra (At i Destroyed ∷ h) = nothing
extra (e ∷ h) = extra h

-- a slot waits where neither what it serves nor what is in flight is of the newest generation
abbrev pub waits : History → Bool
waits h = nat_lt (max (served h) (flight_number (extra h))) (newest h)

-- the readers that are in the selector of generation n
abbrev pub readers : ℕ → History → ℕ
readers n [] = 0
readers n (At i Entered ∷ h) = if served h == n then readers n h + 1 else readers n h
readers n (At i (Left m) ∷ h) = if n == m then readers n h - 1 else readers n h
readers n (e ∷ h) = readers n h

-- the counter of tickets of the served selector
abbrev pub drawn : History → ℕ
drawn [] = 0
drawn (At i (Published ended ms) ∷ h) = 0
drawn (At i (Drew t) ∷ h) = t
drawn (e ∷ h) = drawn h

-- The counter of tickets of the retired selector goes on from where it was while that one was served; a selector that is retired
-- unserved begins at 0.
abbrev pub drawn_retired : History → ℕ
drawn_retired [] = 0
drawn_retired (At i (Published ended ms) ∷ h) = drawn h
drawn_retired (At i (Abandoned ms) ∷ h) = 0
drawn_retired (At i (DrewRetired t) ∷ h) = t
drawn_retired (e ∷ h) = drawn_retired h

-- The four counts: publications; memberships that found the slot waiting; flights that ended unpublished when they were not of
-- the newest generation any more; failed builds, up to 18446744073709551615.
abbrev pub published : History → ℕ
published [] = 0
published (At i (Published ended ms) ∷ h) = published h + 1
published (e ∷ h) = published h

abbrev pub coalesced : History → ℕ
coalesced [] = 0
coalesced (Scheduled ms now ∷ h) = if waits h then coalesced h + 1 else coalesced h
coalesced (e ∷ h) = coalesced h

abbrev pub is_outdated : History → Bool
is_outdated h = is_flight (extra h) && nat_lt (flight_number (extra h)) (newest h)

abbrev pub superseded : History → ℕ
superseded [] = 0
superseded (At i (Failed now ms) ∷ h) = if is_outdated h then superseded h + 1 else superseded h
superseded (At i (Abandoned ms) ∷ h) = if is_outdated h then superseded h + 1 else superseded h
superseded (At i WorkerLost ∷ h) = if is_outdated h then superseded h + 1 else superseded h
superseded (e ∷ h) = superseded h

abbrev pub all_failures : History → ℕ
all_failures [] = 0
all_failures (At i (Failed now ms) ∷ h) = all_failures h + 1
all_failures (e ∷ h) = all_failures h

abbrev pub failed : History → ℕ
failed h = min (all_failures h) 18446744073709551615

-- the failed builds of generation n, and the moment of the last one
abbrev pub failures : ℕ → History → ℕ
failures n [] = 0
failures n (At i (Failed now ms) ∷ h) = if granted h == n then failures n h + 1 else failures n h
failures n (e ∷ h) = failures n h

abbrev pub failed_at : ℕ → History → ℕ
failed_at n [] = 0
failed_at n (At i (Failed now ms) ∷ h) = if granted h == n then now else failed_at n h
failed_at n (e ∷ h) = failed_at n h

-- After k failed builds of the newest generation the next one is due ten milliseconds after the last, doubled at each failure
-- and one second at most. Moments are in nanoseconds and end at 2^128 - 1.
abbrev pub retry_delay : ℕ → ℕ
retry_delay k = min (10 * 2 ^ (k - 1)) 1000 * 1000000

abbrev pub later : ℕ → ℕ → ℕ
later moment delay = min (moment + delay) 340282366920938463463374607431768211455

abbrev pub due_after : ℕ → ℕ → ℕ
due_after k moment = if k == 0 then 0 else later moment (retry_delay k)

abbrev pub due_moment : History → ℕ
due_moment h = due_after (failures (newest h) h) (failed_at (newest h) h)

-- The timing of the last publication: its generation, how long its membership waited for the job, and how long the build took
-- from the job on. A difference stops at 0.
abbrev pub timing : History → Option Timing
timing [] = None
timing (At i (Published ended ms) ∷ h) =
    Some (record { generation = granted h; queue = asked_at h - scheduled_at (granted h) h; build = ended - asked_at h })
timing (e ∷ h) = timing h

-- what a slot answers that is asked for its next build
pub data AskAnswer : Type 0 where
  cancelled : AskAnswer
  building : AskAnswer
  up_to_date : AskAnswer
  not_due : ℕ → AskAnswer
  busy : AskAnswer
  job : AskAnswer

-- the first answer that fits, where `out` says that the gate's permit is out
abbrev pub ask_answer : History → Bool → ℕ → AskAnswer
ask_answer h out now =
    if is_cancelled h then cancelled
    else if is_flight (extra h) then building
    else if not (waits h) then up_to_date
    else if nat_lt now (due_moment h) then not_due (due_moment h)
    else if out || is_extra (extra h) then busy
    else job

-- which events can come next
abbrev pub MayHappen : History → SlotEvent → Type 0
MayHappen h (Granted now) = (extra h ≡ nothing) × (waits h ≡ true) × (is_cancelled h ≡ false)
MayHappen h (Failed now ms) = is_under_way (granted h) (extra h) ≡ true
MayHappen h (Published ended ms) = (is_flight (extra h) ≡ true) × (is_cancelled h ≡ false)
MayHappen h (Abandoned ms) = is_under_way (granted h) (extra h) ≡ true
MayHappen h WorkerLost = is_flight (extra h) ≡ true
MayHappen h TakenOut = (is_retired_of (generation_of (extra h)) (extra h) ≡ true) × (readers (generation_of (extra h)) h ≡ 0)
MayHappen h Destroyed = is_taken_out (extra h) ≡ true
MayHappen h Entered = Unit {0}
MayHappen h (Left n) = 0 < readers n h
MayHappen h (Drew t) = Unit {0}
MayHappen h (DrewRetired t) = is_retired_of (generation_of (extra h)) (extra h) ≡ true

-- a slot's past that can be
abbrev pub IsPast : History → Type 0
IsPast [] = Unit {0}
IsPast (Scheduled ms now ∷ h) = IsPast h × (is_cancelled h ≡ false)
IsPast (Cancelled ∷ h) = IsPast h
IsPast (At i e ∷ h) = IsPast h × MayHappen h e

abbrev pub IsSlotsHistory : History → Type 0
IsSlotsHistory h = (i : ℕ) → IsPast (past_of i h)

-- A past in which what came back had the members that its job went out with. Whoever keeps each job until it comes back knows
-- it; a group alone does not.
abbrev pub IsFaithful : History → Type 0
IsFaithful [] = Unit {0}
IsFaithful (At i (Failed now ms) ∷ h) = IsFaithful h × (ms ≡ granted_members h)
IsFaithful (At i (Published ended ms) ∷ h) = IsFaithful h × (ms ≡ granted_members h)
IsFaithful (At i (Abandoned ms) ∷ h) = IsFaithful h × (ms ≡ granted_members h)
IsFaithful (e ∷ h) = IsFaithful h

-- the generation of a slot's flight, if there is one
abbrev pub flight_after : History → Option ℕ
flight_after p = if is_flight (extra p) then Some (flight_number (extra p)) else None
