-- What the calls on a group answer after its history, and which events they add to it. An answer is stated by cases; the events
-- are a function of the call and its answer, so that what two calls did one after the other is the one list before the other.
use Rattle.std.specs.Prelude.{◌≡◌, ◌==◌, ◌&&◌, ◌||◌, ◌+◌, ◌%◌, ◌<◌, ◌≤◌, ◌^◌, ◌⊎◌, ℕ, Bool, true, false, not, nat_lt, List, [], ◌∷◌, map}
use Rattle.std.specs.Prelude.{length, slice_get, Option, Some, None, Result, Ok, Err, MatchOption, if◌then◌else◌}
use Rattle.lb_select_base.specs.Backends.{Member}
use Rattle.lb_select_base.specs.Draws.{Draw}
use Rattle.lb_select_base.specs.Memberships.{same_members}
use Rattle.lb_select_base.specs.declared.refusal.Refusal.{Refusal}
use Rattle.lb_select_base.specs.declared.refusal.Refusal.TheVariants as refusal
use Rattle.lb_rebuild_core.specs.Gate.{GateValue, gate}
use Rattle.lb_rebuild_core.specs.SlotsHistory.{SlotEvent, Granted, Failed, Published, Abandoned, Drew, DrewRetired, Scheduled, At}
use Rattle.lb_rebuild_core.specs.SlotsHistory.{History, past_of, newest, is_retired_of, drawn_retired}
use Rattle.lb_rebuild_core.specs.SlotsHistory.{members_of, is_cancelled, order_members, served, served_members, is_flight, is_under_way}
use Rattle.lb_rebuild_core.specs.SlotsHistory.{is_taken_out, taken_out_number, generation_of, extra, waits, readers, drawn, AskAnswer}
use Rattle.lb_rebuild_core.specs.SlotsHistory.{cancelled}
use Rattle.lb_rebuild_core.specs.SlotsHistory.{building, up_to_date, not_due, busy, job, ask_answer}
use Rattle.lb_rebuild_core.specs.Orders.{order_for}
use Rattle.lb_rebuild_core.specs.Values.{Task, BuiltValue, RetiredValue, PermitValue, ReaderValue, SlotValue, PreparedValue}
use Rattle.lb_rebuild_core.specs.Values.{SlotsValue, configs_of}
use Rattle.lb_rebuild_core.specs.Stands.{Made, left_readers}
use Rattle.lb_rebuild_core.specs.SlotCalls.{ask_told, asked_gate, take_refusal, SelectsFrom}
use Rattle.lb_rebuild_core.specs.declared.answers.Ask.{Ask}
use Rattle.lb_rebuild_core.specs.declared.answers.Ask.TheVariants as asked
use Rattle.lb_rebuild_core.specs.declared.answers.Publication.{Publication}
use Rattle.lb_rebuild_core.specs.declared.answers.Publication.TheVariants as told
use Rattle.lb_rebuild_core.specs.declared.answers.Selection.{Selection}
use Rattle.lb_rebuild_core.specs.declared.membership.Scheduled as answer
use Rattle.lb_rebuild_core.specs.declared.membership.SlotTurn.{SlotTurn}
use Rattle.lb_rebuild_core.specs.declared.membership.SlotTurn.TheVariants.{Running, Start}

-- whether a membership is another one than the newest
abbrev pub is_change : List Member → History → Bool
is_change members h = not (same_members members (members_of (newest h) h))

-- Why a membership is refused, memory apart: no generation is left for it, or the group is cancelled.
abbrev pub schedule_refusal : List Member → History → Option Refusal
schedule_refusal members h =
    if is_change members h && newest h == 18446744073709551615 then Some refusal.GenerationsExhausted
    else if is_cancelled h then Some refusal.GroupCancelled
    else None

-- what a membership finds each of so many slots doing, from the place i on
abbrev pub turn_after : History → SlotTurn
turn_after p = if is_flight (extra p) || waits p then Running else Start

abbrev pub turns_after : {C : Type 0} → ℕ → List C → History → List SlotTurn
turns_after i [] h = []
turns_after i (c ∷ cs) h = turn_after (past_of i h) ∷ turns_after (i + 1) cs h

-- The same membership changes nothing; another one is the next generation. Memory is taken for another one alone.
abbrev pub Schedules : {C : Type 0} → Made C → History → List Member → Result answer.Scheduled Refusal → Type 0
Schedules made h members (Ok s) =
    (schedule_refusal members h ≡ None) × (s.changed ≡ is_change members h)
    × (s.generation ≡ (if is_change members h then newest h + 1 else newest h))
    × (s.turns.items ≡ (if is_change members h then turns_after 0 made.configs h else []))
Schedules made h members (Err e) =
    (schedule_refusal members h ≡ Some e)
    ⊎ ((schedule_refusal members h ≡ None) × (is_change members h ≡ true) × (e ≡ refusal.OutOfMemory))

abbrev pub schedule_events : List Member → ℕ → Result answer.Scheduled Refusal → History
schedule_events members now (Ok s) = if s.changed then Scheduled members now ∷ [] else []
schedule_events members now (Err e) = []

-- what a membership is prepared as: nothing where it is the same
abbrev pub Prepares : {C : Type 0} → Made C → History → List Member → Result (Option (PreparedValue C)) Refusal → Type 0
Prepares made h members (Ok None) = (schedule_refusal members h ≡ None) × (is_change members h ≡ false)
Prepares made h members (Ok (Some p)) =
    (schedule_refusal members h ≡ None) × (is_change members h ≡ true) × (p.generation ≡ newest h + 1) × (p.members ≡ members)
    × (p.turns ≡ turns_after 0 made.configs h)
Prepares made h members (Err e) =
    (schedule_refusal members h ≡ Some e)
    ⊎ ((schedule_refusal members h ≡ None) × (is_change members h ≡ true) × (e ≡ refusal.OutOfMemory))

-- it is the next membership of this group, with an order for each of its slots as they are
pub record Fits {C : Type 0} (v : SlotsValue C) (p : PreparedValue C) : Type 0 where
  pub generation : p.generation ≡ v.newest + 1
  pub bounded : v.newest + 1 < 2 ^ 64
  pub live : v.cancelled ≡ false
  pub orders : p.orders ≡ map (λ (x : SlotValue C). order_for (v.newest + 1) p.members x) v.slots

abbrev pub FitsIfThere : {C : Type 0} → SlotsValue C → Option (PreparedValue C) → Type 0
FitsIfThere v None = Unit {0}
FitsIfThere v (Some p) = Fits v p

-- the answer to a membership that was prepared
abbrev pub IsCommitted : {C : Type 0} → PreparedValue C → answer.Scheduled → Type 0
IsCommitted p s = (s.generation ≡ p.generation) × (s.changed ≡ true) × (s.turns.items ≡ p.turns)

-- A job is of its group and slot and of the newest generation, with the members of its order, the slot's configuration and the
-- permit.
pub record IsJob {C : Type 0} (made : Made C) (h : History) (slot : ℕ) (j : Task C) : Type 0 where
  pub group : j.group ≡ made.id
  pub place : j.slot ≡ slot
  pub generation : j.generation ≡ newest h
  pub permit : j.permit ≡ made.gate
  pub config : slice_get made.configs slot ≡ Some j.config
  pub members : j.members ≡ order_members (past_of slot h)

abbrev pub JobIs : {S C W : Type 0} → Made C → History → ℕ → Ask S C W → Type 0
JobIs made h slot asked.Cancelled = Unit {0}
JobIs made h slot asked.Building = Unit {0}
JobIs made h slot asked.Nothing = Unit {0}
JobIs made h slot (asked.NotDue m) = Unit {0}
JobIs made h slot asked.Busy = Unit {0}
JobIs made h slot (asked.Job j) = IsJob made h slot j

abbrev pub Asks : {S C W : Type 0} → Made C → History → ℕ → Bool → ℕ → Result (Ask S C W) Refusal → Type 0
Asks made h slot out now (Ok a) =
    (slot < length made.configs) × (ask_told a ≡ ask_answer (past_of slot h) out now) × JobIs made h slot a
Asks made h slot out now (Err e) = (e ≡ refusal.NoSuch) × (length made.configs ≤ slot)

-- a job that goes out is the group's own
abbrev pub IsOwnJob : {S C W : Type 0} → SlotsValue C → Ask S C W → Type 0
IsOwnJob v asked.Cancelled = Unit {0}
IsOwnJob v asked.Building = Unit {0}
IsOwnJob v asked.Nothing = Unit {0}
IsOwnJob v (asked.NotDue m) = Unit {0}
IsOwnJob v asked.Busy = Unit {0}
IsOwnJob v (asked.Job j) = (j.group ≡ v.id) × (j.permit ≡ v.gate) × (slice_get (configs_of v) j.slot ≡ Some j.config)

abbrev pub asked_events : ℕ → ℕ → AskAnswer → History
asked_events slot now cancelled = []
asked_events slot now building = []
asked_events slot now up_to_date = []
asked_events slot now (not_due m) = []
asked_events slot now busy = []
asked_events slot now job = At slot (Granted now) ∷ []

abbrev pub ask_events : {S C W : Type 0} → ℕ → ℕ → Result (Ask S C W) Refusal → History
ask_events slot now (Ok a) = asked_events slot now (ask_told a)
ask_events slot now (Err e) = []

abbrev pub gate_after : {S C W : Type 0} → Result (Ask S C W) Refusal → GateValue → GateValue
gate_after (Ok a) g = asked_gate (ask_told a) g
gate_after (Err e) g = g

-- whether the slot has a flight or a lost flight of that generation
abbrev pub is_awaited : ℕ → ℕ → History → Bool
is_awaited slot n h = is_under_way n (extra (past_of slot h))

-- a job that is not awaited is returned
abbrev pub Fails : {C : Type 0} → History → Task C → Result (Unit {0}) (Task C) → Type 0
Fails h j (Ok u) = is_awaited j.slot j.generation h ≡ true
Fails h j (Err k) = (is_awaited j.slot j.generation h ≡ false) × (k ≡ j)

abbrev pub fail_events : {C : Type 0} → Task C → ℕ → Result (Unit {0}) (Task C) → History
fail_events j now (Ok u) = At j.slot (Failed now j.members) ∷ []
fail_events j now (Err k) = []

-- a call that took a permit for its gate leaves the gate free; one that returned it leaves it as it was
abbrev pub gate_back : {A B : Type 0} → Result A B → GateValue → GateValue
gate_back (Ok a) g = gate g.id false
gate_back (Err b) g = g

-- a selector is served where its slot has the flight and the group is not cancelled
abbrev pub is_served : ℕ → History → Bool
is_served slot h = is_flight (extra (past_of slot h)) && not (is_cancelled h)

abbrev pub publish_answer : ℕ → ℕ → History → Publication
publish_answer slot n h = if is_served slot h then told.Published n else told.Abandoned n

-- a selector that is not awaited is returned
abbrev pub Publishes : {C : Type 0} → History → BuiltValue C → Result Publication (BuiltValue C) → Type 0
Publishes h b (Ok t) = (is_awaited b.task.slot b.task.generation h ≡ true) × (t ≡ publish_answer b.task.slot b.task.generation h)
Publishes h b (Err c) = (is_awaited b.task.slot b.task.generation h ≡ false) × (c ≡ b)

abbrev pub publish_events : {C : Type 0} → BuiltValue C → Result Publication (BuiltValue C) → History
publish_events b (Ok (told.Published n)) = At b.task.slot (Published b.ended b.task.members) ∷ []
publish_events b (Ok (told.Abandoned n)) = At b.task.slot (Abandoned b.task.members) ∷ []
publish_events b (Err c) = []

abbrev pub Abandons : {C : Type 0} → History → BuiltValue C → Result (Unit {0}) (BuiltValue C) → Type 0
Abandons h b (Ok u) = is_awaited b.task.slot b.task.generation h ≡ true
Abandons h b (Err c) = (is_awaited b.task.slot b.task.generation h ≡ false) × (c ≡ b)

abbrev pub abandon_events : {C : Type 0} → BuiltValue C → Result (Unit {0}) (BuiltValue C) → History
abandon_events b (Ok u) = At b.task.slot (Abandoned b.task.members) ∷ []
abandon_events b (Err c) = []

-- a worker is lost where there is a flight
abbrev pub lose_refusal : {C : Type 0} → Made C → ℕ → History → Option Refusal
lose_refusal made slot h =
    if nat_lt slot (length made.configs)
    then if is_flight (extra (past_of slot h)) then None else Some refusal.NothingInFlight
    else Some refusal.NoSuch

-- a call with no growth is refused exactly for its cause
abbrev pub Unless : {A : Type 0} → Option Refusal → Result A Refusal → Type 0
Unless cause (Ok a) = cause ≡ None
Unless cause (Err e) = cause ≡ Some e

-- an event at a slot where the call was not refused
abbrev pub done_at : {A B : Type 0} → ℕ → SlotEvent → Result A B → History
done_at slot e (Ok a) = At slot e ∷ []
done_at slot e (Err b) = []

abbrev pub enter_refusal : {C : Type 0} → Made C → ℕ → History → Option Refusal
enter_refusal made slot h =
    if nat_lt slot (length made.configs)
    then if readers (served (past_of slot h)) (past_of slot h) == 18446744073709551615 then Some refusal.NumbersExhausted else None
    else Some refusal.NoSuch

-- a reader is in what its slot serves then
abbrev pub Enters : {C : Type 0} → Made C → History → ℕ → Result (ReaderValue C) Refusal → Type 0
Enters made h slot (Ok r) =
    (enter_refusal made slot h ≡ None) × (r.slot ≡ slot) × (r.generation ≡ served (past_of slot h))
    × (r.members ≡ served_members (past_of slot h)) × (slice_get made.configs slot ≡ Some r.config) × (r.group ≡ made.id)
Enters made h slot (Err e) = (enter_refusal made slot h ≡ Some e) ⊎ ((enter_refusal made slot h ≡ None) × (e ≡ refusal.OutOfMemory))

-- whether readers of that generation are in the slot
abbrev pub is_read : {C : Type 0} → Made C → ℕ → ℕ → History → Bool
is_read made slot n h = nat_lt slot (length made.configs) && nat_lt 0 (readers n (past_of slot h))

-- a reader that the slot does not count is returned
abbrev pub Leaves : {C : Type 0} → Made C → History → ReaderValue C → Result (Unit {0}) (ReaderValue C) → Type 0
Leaves made h r (Ok u) = is_read made r.slot r.generation h ≡ true
Leaves made h r (Err q) = (is_read made r.slot r.generation h ≡ false) × (q ≡ r)

abbrev pub taken_refusal : {C : Type 0} → Made C → ℕ → History → Option Refusal
taken_refusal made slot h =
    if nat_lt slot (length made.configs)
    then take_refusal (extra (past_of slot h)) (left_readers (extra (past_of slot h)) (past_of slot h))
    else Some refusal.NoSuch

abbrev pub Takes : {C : Type 0} → Made C → History → ℕ → Result RetiredValue Refusal → Type 0
Takes made h slot (Ok r) =
    (taken_refusal made slot h ≡ None) × (r.group ≡ made.id) × (r.slot ≡ slot)
    × (r.generation ≡ generation_of (extra (past_of slot h))) × (r.permit ≡ made.gate)
Takes made h slot (Err e) = taken_refusal made slot h ≡ Some e

-- whether a selector was taken out of the slot and is not reported yet
abbrev pub is_owed : {C : Type 0} → Made C → ℕ → History → Bool
is_owed made slot h = nat_lt slot (length made.configs) && is_taken_out (extra (past_of slot h))

-- the generation of what was taken out of a slot and is not reported yet
abbrev pub taken_out_at : {C : Type 0} → Made C → ℕ → History → Option ℕ
taken_out_at made slot h = if nat_lt slot (length made.configs) then taken_out_number (extra (past_of slot h)) else None

-- the permit of a report that is not owed is returned
abbrev pub Reports : {C : Type 0} → Made C → History → ℕ → PermitValue → Result (Unit {0}) PermitValue → Type 0
Reports made h slot permit (Ok u) = is_owed made slot h ≡ true
Reports made h slot permit (Err p) = (is_owed made slot h ≡ false) × (p ≡ permit)

-- whether the slot serves that generation
abbrev pub serves : {C : Type 0} → Made C → ℕ → ℕ → History → Bool
serves made slot n h = nat_lt slot (length made.configs) && (served (past_of slot h) == n)

-- whether the slot has a retired selector of that generation
abbrev pub has_retired : {C : Type 0} → Made C → ℕ → ℕ → History → Bool
has_retired made slot n h = nat_lt slot (length made.configs) && is_retired_of n (extra (past_of slot h))

-- A ticket of the selector of a generation is the next of that selector's own counter, while the slot serves it and while it is
-- retired there. Where the slot has no such selector it is 0.
abbrev pub IsTicket : {C : Type 0} → Made C → History → ℕ → ℕ → ℕ → Type 0
IsTicket made h slot n t =
    t
    ≡ (if serves made slot n h then drawn (past_of slot h)
    else if has_retired made slot n h then drawn_retired (past_of slot h)
    else 0)

abbrev pub ticket_events : {C : Type 0} → Made C → ℕ → ℕ → ℕ → History → History
ticket_events made slot n t h =
    if serves made slot n h then At slot (Drew ((t + 1) % 2 ^ 64)) ∷ []
    else if has_retired made slot n h then At slot (DrewRetired ((t + 1) % 2 ^ 64)) ∷ []
    else []

-- what a reading call answers: a number of the slot, or none where no such slot is there
abbrev pub at_slot : {A C : Type 0} → Made C → ℕ → A → Option A
at_slot made slot a = if nat_lt slot (length made.configs) then Some a else None

-- a selection from what the slot serves, by what accepts and these loads; a slot that is not there selects nothing
abbrev pub SelectsIn :
    {C : Type 0} → (List Member → C → Bool) → (List Member → C → List ℕ → List Draw → List Member → Bool → Type 0)
    → (Member → Bool → Type 0) → (Member → ℕ) → Made C → History → ℕ → List ℕ → ℕ → List ℕ → Selection → Type 0
SelectsIn {C} random walks accepts load_by made h slot key limit words s =
    MatchOption (slice_get made.configs slot) ((s.answer ≡ Ok None) × (s.drawn ≡ 0) × (s.tickets ≡ 0))
    (λ (c : C).
    SelectsFrom random walks accepts load_by key limit words (served_members (past_of slot h)) c (drawn (past_of slot h)) s)

abbrev pub select_events : {C : Type 0} → Made C → ℕ → Selection → History
select_events made slot s = if nat_lt slot (length made.configs) then At slot (Drew s.tickets) ∷ [] else []
