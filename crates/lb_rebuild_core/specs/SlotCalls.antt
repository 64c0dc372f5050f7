-- What the calls on one slot answer and leave, as functions of what contracts see of it.
use Rattle.std.specs.Prelude.{◌≡◌, ◌==◌, ◌&&◌, ◌||◌, ◌+◌, ◌-◌, ◌%◌, ◌^◌, ℕ, Bool, true, false, not, min, max}
use Rattle.std.specs.Prelude.{nat_lt, nat_le, MatchBool, List}
use Rattle.std.specs.Prelude.{length, Option, Some, None, is_none, Result, Ok, Err, if◌then◌else◌}
use Rattle.lb_select_base.specs.Backends.{Member, same_member}
use Rattle.lb_select_base.specs.Draws.{Draw}
use Rattle.lb_select_base.specs.Selections.{Selects}
use Rattle.lb_select_base.specs.declared.refusal.Refusal.{Refusal}
use Rattle.lb_select_base.specs.declared.refusal.Refusal.TheVariants as refusal
use Rattle.lb_rebuild_core.specs.Gate.{GateId, GateValue, gate}
use Rattle.lb_rebuild_core.specs.Drawn.{DrawnValue, DrawnGives}
use Rattle.lb_rebuild_core.specs.SlotsHistory.{Extra, nothing, flight, lost, retired, taken_out, is_flight, is_extra, is_under_way}
use Rattle.lb_rebuild_core.specs.SlotsHistory.{is_retired_of, is_taken_out}
use Rattle.lb_rebuild_core.specs.SlotsHistory.{flight_number, generation_of, due_after, AskAnswer, cancelled, building, up_to_date}
use Rattle.lb_rebuild_core.specs.SlotsHistory.{not_due}
use Rattle.lb_rebuild_core.specs.SlotsHistory.{busy, job}
use Rattle.lb_rebuild_core.specs.Values.{OrderValue, PlaceValue, Task, BuiltValue, RetiredValue, ReaderValue, SlotValue, order_of}
use Rattle.lb_rebuild_core.specs.declared.answers.Ask.{Ask}
use Rattle.lb_rebuild_core.specs.declared.answers.Ask.TheVariants as asked
use Rattle.lb_rebuild_core.specs.declared.answers.Selection.{Selection}
use Rattle.lb_rebuild_core.specs.declared.answers.Publication.{Publication}
use Rattle.lb_rebuild_core.specs.declared.answers.Publication.TheVariants as told

-- one more, up to the greatest number
abbrev pub more : ℕ → ℕ
more n = min (n + 1) 18446744073709551615

abbrev pub slot_waits : {C : Type 0} → ℕ → SlotValue C → Bool
slot_waits newest x = nat_lt (max x.serving.generation (flight_number x.extra)) newest

abbrev pub slot_outdated : {C : Type 0} → ℕ → SlotValue C → Bool
slot_outdated newest x = is_flight x.extra && nat_lt (flight_number x.extra) newest

-- one more superseded flight, where the flight that ends is not of the newest generation
abbrev pub superseded_more : {C : Type 0} → ℕ → SlotValue C → ℕ
superseded_more newest x = if slot_outdated newest x then more x.counts.superseded else x.counts.superseded

-- the slot with an order of the next generation, where `newest` is the one before
abbrev pub ordered_slot : {C : Type 0} → ℕ → OrderValue C → SlotValue C → SlotValue C
ordered_slot newest o x =
    record x {
      waiting = Some o;
      failures = 0;
      failed_at = 0;
      counts = record x.counts { coalesced = if slot_waits newest x then more x.counts.coalesced else x.counts.coalesced };
    }

abbrev pub slot_answer : {C : Type 0} → ℕ → Bool → Bool → ℕ → SlotValue C → AskAnswer
slot_answer newest stopped out now x =
    if stopped then cancelled
    else if is_flight x.extra then building
    else if not (slot_waits newest x) then up_to_date
    else if nat_lt now (due_after x.failures x.failed_at) then not_due (due_after x.failures x.failed_at)
    else if out || (is_extra x.extra || is_none x.waiting) then busy
    else job

-- what an answer says, but for the job in it
abbrev pub ask_told : {S C W : Type 0} → Ask S C W → AskAnswer
ask_told asked.Cancelled = cancelled
ask_told asked.Building = building
ask_told asked.Nothing = up_to_date
ask_told (asked.NotDue m) = not_due m
ask_told asked.Busy = busy
ask_told (asked.Job j) = job

-- the slot after its answer, where `id` is the gate and `at` the moment of the newest membership
abbrev pub asked_slot : {C : Type 0} → AskAnswer → GateId → ℕ → ℕ → ℕ → SlotValue C → SlotValue C
asked_slot cancelled id newest at now x = x
asked_slot building id newest at now x = x
asked_slot up_to_date id newest at now x = x
asked_slot (not_due m) id newest at now x = x
asked_slot busy id newest at now x = x
asked_slot job id newest at now x =
    record x { waiting = None; extra = flight newest; left_tickets = 0; permit = Some id; asked = now; scheduled = at }

-- a job takes the gate's permit
abbrev pub asked_gate : AskAnswer → GateValue → GateValue
asked_gate cancelled g = g
asked_gate building g = g
asked_gate up_to_date g = g
asked_gate (not_due m) g = g
asked_gate busy g = g
asked_gate job g = gate g.id true

-- a job is the order that waited in its slot, with the gate's permit
abbrev pub IsJobOf : {S C W : Type 0} → PlaceValue → GateId → SlotValue C → Ask S C W → Type 0
IsJobOf p id x asked.Cancelled = Unit {0}
IsJobOf p id x asked.Building = Unit {0}
IsJobOf p id x asked.Nothing = Unit {0}
IsJobOf p id x (asked.NotDue m) = Unit {0}
IsJobOf p id x asked.Busy = Unit {0}
IsJobOf p id x (asked.Job j) = (j.group ≡ p.group) × (j.slot ≡ p.slot) × (x.waiting ≡ Some (order_of j)) × (j.permit ≡ id)

-- an order that comes back waits again, where it is of the newest generation
abbrev pub put_back : {C : Type 0} → ℕ → OrderValue C → SlotValue C → Option (OrderValue C)
put_back newest o x = if o.generation == newest then Some o else x.waiting

-- the slot after the failure of its flight or lost flight
abbrev pub failed_slot : {C : Type 0} → ℕ → ℕ → OrderValue C → SlotValue C → SlotValue C
failed_slot newest now o x =
    record x {
      waiting = put_back newest o x;
      extra = nothing;
      left_tickets = 0;
      permit = None;
      failures = if o.generation == newest then more x.failures else x.failures;
      failed_at = if o.generation == newest then now else x.failed_at;
      counts = record x.counts { superseded = superseded_more newest x; failed = more x.counts.failed };
    }

-- the slot that serves what was its flight
abbrev pub published_slot : {C : Type 0} → BuiltValue C → SlotValue C → SlotValue C
published_slot b x =
    record x {
      serving = record { generation = b.task.generation; members = b.task.members; config = b.task.config; tickets = 0 };
      readers = 0;
      extra = retired x.serving.generation;
      left_in = x.readers;
      left_tickets = x.serving.tickets;
      counts = record x.counts { published = more x.counts.published };
      timing = Some (record { generation = b.task.generation; queue = x.asked - x.scheduled; build = b.ended - x.asked });
    }

-- the slot whose flight or lost flight is retired unserved
abbrev pub abandoned_slot : {C : Type 0} → ℕ → BuiltValue C → SlotValue C → SlotValue C
abandoned_slot newest b x =
    record x {
      waiting = put_back newest (order_of b.task) x;
      extra = retired b.task.generation;
      left_in = 0;
      left_tickets = 0;
      counts = record x.counts { superseded = superseded_more newest x };
    }

-- the slot whose flight is lost
abbrev pub lost_slot : {C : Type 0} → ℕ → SlotValue C → SlotValue C
lost_slot newest x =
    record x {
      extra = lost (flight_number x.extra);
      left_tickets = 0;
      counts = record x.counts { superseded = superseded_more newest x };
    }

abbrev pub entered_slot : {C : Type 0} → SlotValue C → SlotValue C
entered_slot x = record x { readers = x.readers + 1 }

-- what a reader that enters a slot gets
abbrev pub reader_of : {C : Type 0} → PlaceValue → SlotValue C → ReaderValue C
reader_of p x =
    record {
      group = p.group;
      slot = p.slot;
      generation = x.serving.generation;
      members = x.serving.members;
      config = x.serving.config;
    }

-- how many readers of that generation are in the slot
abbrev pub readers_at : {C : Type 0} → ℕ → SlotValue C → ℕ
readers_at n x = if x.serving.generation == n then x.readers else if is_retired_of n x.extra then x.left_in else 0

-- one reader of that generation less
abbrev pub left_slot : {C : Type 0} → ℕ → SlotValue C → SlotValue C
left_slot n x =
    record x {
      readers = if x.serving.generation == n then x.readers - 1 else x.readers;
      left_in = if not (x.serving.generation == n) && is_retired_of n x.extra then x.left_in - 1 else x.left_in;
    }

-- why no retired selector can be taken out: none is there, or readers are left in it
abbrev pub take_refusal : Extra → ℕ → Option Refusal
take_refusal nothing left = Some refusal.NothingRetired
take_refusal (flight n) left = Some refusal.NothingRetired
take_refusal (lost n) left = Some refusal.NothingRetired
take_refusal (retired n) left = if left == 0 then None else Some (refusal.StillRead left)
take_refusal (taken_out n) left = Some refusal.NothingRetired

-- What the calls answer and leave, by cases on the answer. What is not awaited is returned, and changes nothing.
abbrev pub FailsAt : {C : Type 0} → ℕ → ℕ → Task C → SlotValue C → Result GateId (Task C) → SlotValue C → Type 0
FailsAt newest now j x (Ok p) y =
    (is_under_way j.generation x.extra ≡ true) × (x.permit ≡ Some p) × (y ≡ failed_slot newest now (order_of j) x)
FailsAt newest now j x (Err k) y = (is_under_way j.generation x.extra ≡ false) × (k ≡ j) × (y ≡ x)

abbrev pub PublishesAt : {C : Type 0} → ℕ → Bool → BuiltValue C → SlotValue C → Result Publication (BuiltValue C) → SlotValue C → Type 0
PublishesAt newest stopped b x (Ok (told.Published n)) y =
    (is_under_way b.task.generation x.extra ≡ true) × ((is_flight x.extra && not stopped) ≡ true) × (n ≡ b.task.generation)
    × (y ≡ published_slot b x)
PublishesAt newest stopped b x (Ok (told.Abandoned n)) y =
    (is_under_way b.task.generation x.extra ≡ true) × ((is_flight x.extra && not stopped) ≡ false) × (n ≡ b.task.generation)
    × (y ≡ abandoned_slot newest b x)
PublishesAt newest stopped b x (Err c) y = (is_under_way b.task.generation x.extra ≡ false) × (c ≡ b) × (y ≡ x)

abbrev pub AbandonsAt : {C : Type 0} → ℕ → BuiltValue C → SlotValue C → Result (Unit {0}) (BuiltValue C) → SlotValue C → Type 0
AbandonsAt newest b x (Ok u) y = (is_under_way b.task.generation x.extra ≡ true) × (y ≡ abandoned_slot newest b x)
AbandonsAt newest b x (Err c) y = (is_under_way b.task.generation x.extra ≡ false) × (c ≡ b) × (y ≡ x)

abbrev pub LosesAt : {C : Type 0} → ℕ → SlotValue C → Result (Unit {0}) Refusal → SlotValue C → Type 0
LosesAt newest x (Ok u) y = (is_flight x.extra ≡ true) × (y ≡ lost_slot newest x)
LosesAt newest x (Err e) y = (is_flight x.extra ≡ false) × (e ≡ refusal.NothingInFlight) × (y ≡ x)

abbrev pub LeavesAt : {C : Type 0} → ReaderValue C → SlotValue C → Result (Unit {0}) (ReaderValue C) → SlotValue C → Type 0
LeavesAt r x (Ok u) y = (nat_lt 0 (readers_at r.generation x) ≡ true) × (y ≡ left_slot r.generation x)
LeavesAt r x (Err q) y = (nat_lt 0 (readers_at r.generation x) ≡ false) × (q ≡ r) × (y ≡ x)

-- the slot without its retired selector
abbrev pub taken_slot : {C : Type 0} → SlotValue C → SlotValue C
taken_slot x = record x { extra = taken_out (generation_of x.extra); left_in = 0; left_tickets = 0 }

abbrev pub TakesAt : {C : Type 0} → PlaceValue → SlotValue C → Result RetiredValue Refusal → SlotValue C → Type 0
TakesAt p x (Ok r) y =
    (x.extra ≡ retired r.generation) × (x.left_in ≡ 0) × (x.permit ≡ Some r.permit) × (r.group ≡ p.group) × (r.slot ≡ p.slot)
    × (y ≡ taken_slot x)
TakesAt p x (Err e) y = (take_refusal x.extra x.left_in ≡ Some e) × (y ≡ x)

-- the slot once what was taken out of it is destroyed
abbrev pub destroyed_slot : {C : Type 0} → SlotValue C → SlotValue C
destroyed_slot x = record x { extra = nothing; left_tickets = 0; permit = None }

-- a report gives the permit that the slot had, where a selector was taken out of it
abbrev pub ReportsAt : {C : Type 0} → SlotValue C → Option GateId → SlotValue C → Type 0
ReportsAt x (Some p) y = (is_taken_out x.extra ≡ true) × (x.permit ≡ Some p) × (y ≡ destroyed_slot x)
ReportsAt x None y = (is_taken_out x.extra ≡ false) × (y ≡ x)

-- the slot with its counter of tickets elsewhere
abbrev pub drawn_slot : {C : Type 0} → ℕ → SlotValue C → SlotValue C
drawn_slot n x = record x { serving = record x.serving { tickets = n } }

-- the slot with the counter of tickets of its retired selector elsewhere
abbrev pub left_drawn_slot : {C : Type 0} → ℕ → SlotValue C → SlotValue C
left_drawn_slot n x = record x { left_tickets = n }

-- a ticket is the next of the counter of the selector of that generation, which it serves or has retired; there is none of another
abbrev pub TicketAt : {C : Type 0} → ℕ → SlotValue C → ℕ → SlotValue C → Type 0
TicketAt n x t y =
    MatchBool (x.serving.generation == n) ((t ≡ x.serving.tickets) × (y ≡ drawn_slot ((t + 1) % 2 ^ 64) x))
    (MatchBool (is_retired_of n x.extra) ((t ≡ x.left_tickets) × (y ≡ left_drawn_slot ((t + 1) % 2 ^ 64) x)) ((t ≡ 0) × (y ≡ x)))

-- The first accepted of the candidates from a selector of these members and this configuration whose counter is at `tickets`,
-- with these loads. Where walks over it may draw random words, there must be more of them than the limit.
abbrev pub SelectsFrom :
    {C : Type 0} → (List Member → C → Bool) → (List Member → C → List ℕ → List Draw → List Member → Bool → Type 0)
    → (Member → Bool → Type 0) → (Member → ℕ) → List ℕ → ℕ → List ℕ → List Member → C → ℕ → Selection → Type 0
SelectsFrom random walks accepts load_by key limit words members config tickets s =
    MatchBool (random members config && nat_le (length words) limit)
    ((s.answer ≡ Err refusal.NotEnoughWords) × (s.drawn ≡ 0) × (s.tickets ≡ tickets))
    ((t : DrawnValue)
    × Selects same_member accepts limit (DrawnGives load_by) (walks members config key)
    (record { words = record { tickets = tickets; words = words }; drawn = 0 }) s.answer t
    × (s.drawn ≡ t.drawn) × (s.tickets ≡ t.words.tickets))
