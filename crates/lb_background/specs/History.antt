-- The history of a run by turns: the events that it took, with their moments, and what it answered; the last first. What is right to
-- answer is a function of the whole history.
use Rattle.std.specs.Prelude.{◌≡◌, ℕ, Bool, true, false, not, ◌&&◌, ◌||◌, List, [], ◌∷◌, Option, Some, None, Ok, ⊤}
use Rattle.std.specs.Prelude.{◌⊎◌, if◌then◌else◌}
use Rattle.lb_background.specs.declared.event.Event.{Event}
use Rattle.lb_background.specs.declared.event.Event.TheVariants as on
use Rattle.lb_background.specs.declared.event.Action.{Action}
use Rattle.lb_background.specs.declared.event.Action.TheVariants as to
use Rattle.lb_background.specs.Schedule.{ScheduleValue, schedule_after}
use Rattle.lb_background.specs.Turns.{Plan, RunValue, is_update, is_ready, is_check, is_sleep, stage, action_at, with_last, no_schedule}

-- an event with its moment, the least generation that a slot serves then, and the answer
pub record Heard : Type 0 where
  pub at : ℕ
  pub given : ℕ
  pub event : Event
  pub action : Action

abbrev pub is_start : Event → Bool
is_start on.Start = true
is_start e = false

abbrev pub is_shutdown : Event → Bool
is_shutdown on.Shutdown = true
is_shutdown e = false

-- what was answered last, `Hold` at first
abbrev pub last : List Heard → Action
last [] = to.Hold
last (x ∷ h) = x.action

-- whether it was shut down; whether it began, or was shut down
abbrev pub was_shut : List Heard → Bool
was_shut [] = false
was_shut (x ∷ h) = is_shutdown x.event || was_shut h

abbrev pub begun : List Heard → Bool
begun [] = false
begun (x ∷ h) = (is_start x.event || is_shutdown x.event) || begun h

-- whether an event fits the answer before it
abbrev pub is_told : Event → Action → Bool
is_told on.Told a = is_ready a
is_told e a = false

abbrev pub is_updated : Event → Action → Bool
is_updated (on.Updated u) a = is_update a
is_updated e a = false

abbrev pub is_checked : Event → Action → Bool
is_checked on.Checked a = is_check a
is_checked e a = false

-- whether the notifier was notified
abbrev pub told : List Heard → Bool
told [] = false
told (x ∷ h) = is_told x.event (last h) || told h

-- the generation of the last update that succeeded
abbrev pub updated_to : Event → Action → Option ℕ → Option ℕ
updated_to (on.Updated (Ok g)) a before = if is_update a then Some g else before
updated_to e a before = before

abbrev pub target : List Heard → Option ℕ
target [] = None
target (x ∷ h) = updated_to x.event (last h) (target h)

-- whether an event is the start, and whether a turn begins at it
abbrev pub starts : Event → List Heard → Bool
starts e h = is_start e && not (begun h)

module _ (p : Plan) where
  abbrev pub begins : Event → List Heard → Bool
  begins on.Start h = not (begun h)
  begins on.Woke h = is_sleep (last h)
  begins on.Rebuilt h = is_sleep (last h) && (p.of_group && p.notifier && not (told h))
  begins e h = false

  -- the moment of the turn
  abbrev pub base : List Heard → ℕ
  base [] = 0
  base (x ∷ h) = if begins x.event h then x.at else base h

  -- the moment of the start, and the bases of the turns whose updates, and whose checks, were answered since
  abbrev pub started : List Heard → Option ℕ
  started [] = None
  started (x ∷ h) = if starts x.event h then Some x.at else started h

  abbrev pub updates : List Heard → List ℕ
  updates [] = []
  updates (x ∷ h) = if starts x.event h then [] else if is_updated x.event (last h) then base h ∷ updates h else updates h

  abbrev pub checks : List Heard → List ℕ
  checks [] = []
  checks (x ∷ h) = if starts x.event h then [] else if is_checked x.event (last h) then base h ∷ checks h else checks h

  abbrev pub schedule_of : Option ℕ → List ℕ → List ℕ → ScheduleValue
  schedule_of None us cs = no_schedule
  schedule_of (Some made) us cs = schedule_after (Some p.update) p.check made us cs

  -- all that the answer to the next event depends on
  abbrev pub state : List Heard → RunValue
  state h = record {
    plan = p;
    begun = begun h;
    told = told h;
    base = base h;
    target = target h;
    schedule = schedule_of (started h) (updates h) (checks h);
    last = last h;
  }

  -- the answer to an event: in the state with the event, from where the state before it says on
  abbrev pub right : Heard → List Heard → Action
  right x h = action_at (with_last (state (x ∷ h)) (last h)) (stage (state h) x.event) x.given

  -- each answer was right
  abbrev pub IsRun : List Heard → Type 0
  IsRun [] = ⊤
  IsRun (x ∷ h) = (x.action ≡ right x h) × IsRun h

-- a run has this history
pub record IsAfter (r : RunValue) (h : List Heard) : Type 0 where
  pub state : r ≡ state r.plan h
  pub run : IsRun r.plan h

abbrev pub heard : ℕ → ℕ → Event → Action → Heard
heard now given e a = record { at = now; given = given; event = e; action = a }

-- an update was answered
abbrev pub HasUpdated : List Heard → Type 0
HasUpdated [] = ⊥
HasUpdated (x ∷ h) = (is_updated x.event (last h) ≡ true) ⊎ HasUpdated h
