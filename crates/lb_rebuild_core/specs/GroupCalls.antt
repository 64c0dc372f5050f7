-- What the calls of a joined group promise: one record for each call, which the layers above cite.
use Rattle.std.specs.Prelude.{◌≡◌, ◌⊎◌, ◌↔◌, ◌+◌, ◌^◌, ◌≤◌, ℕ, Bool, true, IsTrue, List, [], ◌∷◌, ◌++◌, Option, Some, None}
use Rattle.std.specs.Prelude.{Result, Ok, Err, IfOk, IsErrOf, OnErr, OnOk, if◌then◌else◌}
use Rattle.std.specs.Borrow.{Bor}
use Rattle.std.specs.Fn.{Shared, FnReturns}
use Rattle.lb_select_base.specs.Backends.{Member}
use Rattle.lb_select_base.specs.Draws.{Draw}
use Rattle.lb_select_base.specs.Refusals.{memory_apart}
use Rattle.lb_select_base.specs.declared.refusal.Refusal.{Refusal}
use Rattle.lb_select_base.specs.declared.refusal.Refusal.TheVariants.{OutOfMemory, NumbersExhausted}
use Rattle.lb_rebuild_core.specs.Gate.{GateId, GateValue}
use Rattle.lb_rebuild_core.specs.SlotsCalls as slots
use Rattle.lb_rebuild_core.specs.SlotsHistory as core
use Rattle.lb_rebuild_core.specs.SlotsHistory.{past_of, served, extra, generation_of}
use Rattle.lb_rebuild_core.specs.Stands.{Made, StandsFor}
use Rattle.lb_rebuild_core.specs.Values.{Task, BuiltValue, RetiredValue, PermitValue, ReaderValue}
use Rattle.lb_rebuild_core.specs.declared.answers.Ask.{Ask}
use Rattle.lb_rebuild_core.specs.declared.answers.Publication.{Publication}
use Rattle.lb_rebuild_core.specs.declared.answers.Selection.{Selection}
use Rattle.lb_rebuild_core.specs.declared.membership.Scheduled.{Scheduled}
use Rattle.lb_health_view.specs.Causes.{IsRegistryRefusal}
use Rattle.lb_health_view.specs.RegistrySide.{registry_released, registry_updated, IsReady}
use Rattle.lb_health_view.specs.Snapshots.{ViewValue}
use Rattle.lb_health_view.specs.Updates.{RegistryRefuses}
use Rattle.lb_health_view.specs.ViewEvents.{ViewEvent}
use Rattle.lb_health_view.specs.Views.{HoldsOfBoth}
use Rattle.lb_health_core.specs.Registry.{RegistryValue, IsRegistryAfter, HoldsOf, Grows, KeepsHistory}
use Rattle.lb_health_core.specs.RegistryEvents as registry
use Rattle.lb_health_core.specs.RegistryEvents.{Applied, Registered, Marked, registered_after}
use Rattle.lb_rebuild_core.specs.GroupHistory.{History, Shown, slot_events, in_group, after_settings}
use Rattle.lb_rebuild_core.specs.GroupStates.{GroupValue, Stands, After, Becomes, SameSite, views_of}

-- A group is refused for the least cause of its configurations; where there is none, for memory or because no number is left.
abbrev pub IsMakingRefusal : {A : Type 0} → Option Refusal → Result A Refusal → Type 0
IsMakingRefusal cause (Ok a) = cause ≡ None
IsMakingRefusal cause (Err e) = (cause ≡ Some e) ⊎ ((memory_apart cause ≡ None) × ((e ≡ OutOfMemory) ⊎ (e ≡ NumbersExhausted)))

-- Something with a view of its own in a registry was to be made, unless there is this cause against it, and the call answered r: what the
-- registry was before (x) and is after (y). `number` is the number of the view of what was made.
pub record IsMade {A R : Type 0} (gives : R → Member → Member → Type 0) (cause : Option Refusal) (x : RegistryValue R)
    (r : Result A Refusal) (number : A → ℕ) (y : RegistryValue R) : Type 0 where
  -- its view has the next number
  pub id : IfOk r (λ a. HoldsOf gives x (λ key_of events. number a ≡ registered_after events + 1))
  -- its view is registered, and the marks that wait are applied
  pub registry : OnOk r (Grows gives x (λ events. Applied ∷ Registered ∷ events) y)
  -- where it is refused, the registry is as before
  pub err : OnErr r (KeepsHistory gives x y)
  -- where there is no cause beside memory, it is refused for the want of numbers exactly where no number is left for a view
  pub exhausted : HoldsOf gives x (λ key_of events. memory_apart cause ≡ None
      → (IsErrOf r NumbersExhausted ↔ (2 ^ 64 ≤ registered_after events + 1)))
  -- it is refused for the cause; where there is none, for memory or because no number is left
  pub refused : IsMakingRefusal cause r
  -- it is the same registry
  pub one_registry : y.id ≡ x.id

-- A group was just made: it has a slot for each of these configurations, that gate, and its view in that registry.
pub record IsGroupMade {C : Type 0} (configs : List C) (gate_id : GateId) (registry_id : ℕ) (v : GroupValue C) : Type 0 where
  -- nothing has happened to it
  pub stands : Stands (record { id = v.group.id; gate = gate_id; configs = configs }) [] v
  -- it has that gate
  pub gate : v.group.gate ≡ gate_id
  -- its view is in that registry
  pub site : v.registry ≡ registry_id

-- Why a membership is refused: a cause of the group, and where there is none and the membership is another one, a cause of the
-- view's, or memory.
abbrev pub IsRefusedFor : core.History → List Member → Refusal → Type 0
IsRefusedFor h members r =
    (slots.schedule_refusal members h ≡ Some r)
    ⊎ ((slots.schedule_refusal members h ≡ None) × (slots.is_change members h ≡ true) × IsRegistryRefusal r)

-- As for a group alone; the registry of another membership may refuse it too.
abbrev pub Schedules : {C : Type 0} → Made C → History → List Member → Result Scheduled Refusal → Type 0
Schedules made e members (Ok s) = slots.Schedules made (slot_events e) members (Ok s)
Schedules made e members (Err r) = IsRefusedFor (slot_events e) members r

-- another membership is shown, with these cells
abbrev pub with_membership : List Member → List (Member × ℕ) → ℕ → History → History
with_membership members cells now e = (if slots.is_change members (slot_events e) then Shown members cells now ∷ e else e)

-- The cells are those that the registry gives its backends; then the settings reach the newest membership.
abbrev pub after_schedule :
    (Member → Member) → ℕ → List Member → List (Member × Bool) → ℕ → List registry.Event → History → History
after_schedule key_of id members settings now events e =
    after_settings settings (with_membership members (registry.shown_cells key_of id members events) now e)

-- what holds where these members are another membership that the group itself doesn't refuse
abbrev pub IfOpen : {C : Type 0} → List Member → GroupValue C → Type 0 → Type 0
IfOpen members v Holds =
    After v (λ made e. slots.schedule_refusal members (slot_events e) ≡ None → slots.is_change members (slot_events e) ≡ true → Holds)

-- A joined group was given a membership with its settings at a moment, and answered r: what it was before (v) and is after (w), and what
-- its registry was before (x) and is after (y).
pub record IsScheduled {C R : Type 0} (gives : R → Member → Member → Type 0) (v : GroupValue C) (x : RegistryValue R)
    (members : List Member) (settings : List (Member × Bool)) (now : ℕ) (r : Result Scheduled Refusal) (w : GroupValue C)
    (y : RegistryValue R) : Type 0 where
  -- the answer is right
  pub answers : After v (λ made e. Schedules made e members r)
  -- where it is taken in, the group has the cells that the registry gives, and then the settings
  pub stands : OnOk r (HoldsOf gives x (λ key_of events. After v (λ made e. Stands made
      (after_schedule key_of v.view.id members settings now events e) w)))
  -- the same of the slots alone, whatever the registry has been through
  pub group : IfOk r (λ s. After v (λ made e. StandsFor made (slots.schedule_events members now (Ok s) ++ slot_events e) w.group))
  -- where it is taken in, the registry shows it to the view
  pub registry : OnOk r (HoldsOf gives x (λ key_of events. After v (λ made e. IsRegistryAfter gives key_of
      (registry_updated key_of v.view.id members (views_of made e) events) y)))
  -- where it is refused, the group is as before
  pub err : OnErr r (After v (λ made e. Stands made e w))
  -- where it is refused, the registry is as before
  pub registry_err : OnErr r (KeepsHistory gives x y)
  -- for these causes the registry refuses another membership that the group itself doesn't refuse
  pub refusals : RegistryRefuses gives (IsErrOf r) (IfOpen members v) members v.view x
  -- gate, configurations and view stay
  pub site : SameSite v w
  -- it is the same registry
  pub one_registry : y.id ≡ x.id

-- the registry of a view after a call that lets a snapshot go where it isn't refused
abbrev pub released_where : {A B : Type 0} → Result A B → ℕ → ℕ → List ViewEvent → List registry.Event → List registry.Event
released_where (Ok a) id g views events = registry_released id g views events
released_where (Err b) id g views events = events

-- the generation of a slot's extra
abbrev pub generation_at : ℕ → History → ℕ
generation_at slot e = generation_of (extra (past_of slot (slot_events e)))

-- the snapshot of that generation is released where the call isn't refused
abbrev pub IsReleasedWhere : {A B C R : Type 0} → (R → Member → Member → Type 0) → Result A B → GroupValue C → (Made C → History → ℕ)
    → RegistryValue R → RegistryValue R → Type 0
IsReleasedWhere gives r v generation x y =
    HoldsOf gives x (λ key_of events. After v (λ made e. IsRegistryAfter gives key_of (released_where r v.view.id (generation made e)
    (views_of made e) events) y))

-- A slot was asked for its next build at a moment, and answered r: what the group was before (v) and is after (w), and what its gate was
-- before (g) and is after (k).
pub record IsAsked {S C W : Type 0} (v : GroupValue C) (g : GateValue) (slot now : ℕ) (r : Result (Ask S C W) Refusal)
    (w : GroupValue C) (k : GateValue) : Type 0 where
  -- the answer is right
  pub answers : After v (λ made e. slots.Asks made (slot_events e) slot g.out now r)
  -- a job is granted where one is answered, and nothing happens where not
  pub stands : Becomes v (in_group (slots.ask_events slot now r)) w
  -- gate, configurations and view stay
  pub site : SameSite v w
  -- a job is the group's own
  pub own : IfOk r (λ a. slots.IsOwnJob w.group a)
  -- a job has the gate's permit
  pub gate : k ≡ slots.gate_after r g
  -- it is the same gate
  pub one_gate : k.id ≡ g.id

-- A job came back as failed at a moment, and the call answered r: what group (v), registry (x) and gate (g) were before, and are after
-- (w, y, k).
pub record IsFailed {C R : Type 0} (gives : R → Member → Member → Type 0) (v : GroupValue C) (x : RegistryValue R) (g : GateValue)
    (j : Task C) (now : ℕ) (r : Result (Unit {0}) (Task C)) (w : GroupValue C) (y : RegistryValue R) (k : GateValue) : Type 0 where
  -- it is taken where its slot awaits it
  pub answers : After v (λ made e. slots.Fails (slot_events e) j r)
  -- one that is taken ends its flight
  pub stands : Becomes v (in_group (slots.fail_events j now r)) w
  -- gate, configurations and view stay
  pub site : SameSite v w
  -- the snapshot of one that is taken is released
  pub registry : IsReleasedWhere gives r v (λ made e. j.generation) x y
  -- its permit goes back
  pub gate : k ≡ slots.gate_back r g
  -- it is the same gate
  pub one_gate : k.id ≡ g.id
  -- it is the same registry
  pub one_registry : y.id ≡ x.id

-- A selector was published, and the call answered r: what the group was before (v) and is after (w).
pub record IsPublished {C : Type 0} (v : GroupValue C) (b : BuiltValue C) (r : Result Publication (BuiltValue C)) (w : GroupValue C)
    : Type 0 where
  -- it is taken where its slot awaits it, and served where the slot has its flight and the group isn't cancelled
  pub answers : After v (λ made e. slots.Publishes (slot_events e) b r)
  -- one that is taken is served, or retired unserved
  pub stands : Becomes v (in_group (slots.publish_events b r)) w
  -- gate, configurations and view stay
  pub site : SameSite v w

-- A selector came back unserved, and the call answered r: what the group was before (v) and is after (w).
pub record IsAbandoned {C : Type 0} (v : GroupValue C) (b : BuiltValue C) (r : Result (Unit {0}) (BuiltValue C)) (w : GroupValue C)
    : Type 0 where
  -- it is taken where its slot awaits it
  pub answers : After v (λ made e. slots.Abandons (slot_events e) b r)
  -- one that is taken is retired unserved
  pub stands : Becomes v (in_group (slots.abandon_events b r)) w
  -- gate, configurations and view stay
  pub site : SameSite v w

-- A slot's flight was called lost, and the call answered r: what the group was before (v) and is after (w).
pub record IsWorkerLost {C : Type 0} (v : GroupValue C) (slot : ℕ) (r : Result (Unit {0}) Refusal) (w : GroupValue C) : Type 0 where
  -- it is refused exactly for its cause
  pub answers : After v (λ made e. slots.Unless (slots.lose_refusal made slot (slot_events e)) r)
  -- where it isn't refused, the flight is lost
  pub stands : Becomes v (in_group (slots.done_at slot core.WorkerLost r)) w
  -- gate, configurations and view stay
  pub site : SameSite v w

-- What a slot serves was entered, and the call answered r: what the group was before (v) and is after (w).
pub record IsEntered {C : Type 0} (v : GroupValue C) (slot : ℕ) (r : Result (ReaderValue C) Refusal) (w : GroupValue C) : Type 0 where
  -- the answer is right
  pub answers : After v (λ made e. slots.Enters made (slot_events e) slot r)
  -- where it isn't refused, one reader more is in it
  pub stands : Becomes v (in_group (slots.done_at slot core.Entered r)) w
  -- gate, configurations and view stay
  pub site : SameSite v w
  -- the reader is of this group
  pub own : IfOk r (λ reader. reader.group ≡ w.group.id)

-- A ticket was drawn for a reader: what the group was before (v) and is after (w).
pub record IsTicketDrawn {C : Type 0} (v : GroupValue C) (reader : ReaderValue C) (ticket : ℕ) (w : GroupValue C) : Type 0 where
  -- it is the next of the counter of the selector that the reader is in
  pub answers : After v (λ made e. slots.IsTicket made (slot_events e) reader.slot reader.generation ticket)
  -- that counter moves on
  pub stands : After v (λ made e. Stands made
      (in_group (slots.ticket_events made reader.slot reader.generation ticket (slot_events e)) ++ e) w)
  -- gate, configurations and view stay
  pub site : SameSite v w

-- A reader came back, and the call answered r: what the group was before (v) and is after (w).
pub record IsLeft {C : Type 0} (v : GroupValue C) (reader : ReaderValue C) (r : Result (Unit {0}) (ReaderValue C)) (w : GroupValue C)
    : Type 0 where
  -- it is taken where its slot counts one of its generation
  pub answers : After v (λ made e. slots.Leaves made (slot_events e) reader r)
  -- the entry of one that is taken is over
  pub stands : Becomes v (in_group (slots.done_at reader.slot (core.Left reader.generation) r)) w
  -- gate, configurations and view stay
  pub site : SameSite v w

-- A slot was asked for its retired selector, and answered r: what the group was before (v) and is after (w).
pub record IsTaken {C : Type 0} (v : GroupValue C) (slot : ℕ) (r : Result RetiredValue Refusal) (w : GroupValue C) : Type 0 where
  -- the answer is right
  pub answers : After v (λ made e. slots.Takes made (slot_events e) slot r)
  -- where it isn't refused, the selector is out of the slot
  pub stands : Becomes v (in_group (slots.done_at slot core.TakenOut r)) w
  -- gate, configurations and view stay
  pub site : SameSite v w
  -- what is taken out is of this slot, with the permit of the group's gate
  pub own : IfOk r (λ taken. (taken.group ≡ w.group.id) × (taken.slot ≡ slot) × (taken.permit ≡ w.group.gate))

-- A selector that was taken out of a slot was reported destroyed, and the call answered r: what group (v), registry (x) and gate (g) were
-- before, and are after (w, y, k).
pub record IsReported {C R : Type 0} (gives : R → Member → Member → Type 0) (v : GroupValue C) (x : RegistryValue R) (g : GateValue)
    (slot : ℕ) (permit : PermitValue) (r : Result (Unit {0}) PermitValue) (w : GroupValue C) (y : RegistryValue R) (k : GateValue)
    : Type 0 where
  -- the report is taken where a selector of the slot is out
  pub answers : After v (λ made e. slots.Reports made (slot_events e) slot permit r)
  -- where it is taken, the slot has no extra any more
  pub stands : Becomes v (in_group (slots.done_at slot core.Destroyed r)) w
  -- gate, configurations and view stay
  pub site : SameSite v w
  -- where it is taken, the snapshot of what was destroyed is released
  pub registry : IsReleasedWhere gives r v (λ made e. generation_at slot e) x y
  -- its permit goes back
  pub gate : k ≡ slots.gate_back r g
  -- it is the same gate
  pub one_gate : k.id ≡ g.id
  -- it is the same registry
  pub one_registry : y.id ≡ x.id

-- A group was cancelled: what it (v) and its registry (x) were before, and are after (w, y).
pub record IsCancelled {C R : Type 0} (gives : R → Member → Member → Type 0) (v : GroupValue C) (x : RegistryValue R) (w : GroupValue C)
    (y : RegistryValue R) : Type 0 where
  -- the rebuilds are stopped
  pub stands : Becomes v (in_group (core.Cancelled ∷ [])) w
  -- gate, configurations and view stay
  pub site : SameSite v w
  -- the view is marked for removal
  pub registry : Grows gives x (λ events. Marked v.view.id ∷ events) y
  -- it is the same registry
  pub one_registry : y.id ≡ x.id

-- whether a backend is ready in the snapshot of the reader's generation, by the flags and the cells as they are
abbrev pub IsReadyFor : {C R : Type 0} → (R → Member → Member → Type 0) → GroupValue C → RegistryValue R → ReaderValue C → Member → Bool
    → Type 0
IsReadyFor gives v x reader b ready =
    HoldsOf gives x (λ key_of events. After v (λ made e. IsTrue ready ↔ IsReady key_of (views_of made e) events reader.generation b))

-- the generation that a slot serves
abbrev pub served_at : ℕ → History → ℕ
served_at slot e = served (past_of slot (slot_events e))

-- whether a backend is ready in a generation, by the live cells of its snapshot and the flags as they are
abbrev pub Judges : {C : Type 0} → (Member → Member) → List registry.Event → Made C → History → ℕ → Member → Bool → Type 0
Judges key_of events made e n b ready = IsTrue ready ↔ IsReady key_of (views_of made e) events n b

-- the same, whatever view and registry have been through
abbrev pub IsJudged : {R : Type 0} → (R → Member → Member → Type 0) → ViewValue → RegistryValue R → ℕ → Member → Bool → Type 0
IsJudged gives v r n b ready =
    HoldsOfBoth gives v r (λ key_of views events. IsTrue ready ↔ IsReady key_of views events n b)

-- asked with a backend, and with one of the answers that are right of it, f may answer r
pub record AcceptsBy {F B : Type 0} (g : Shared F (Bor B × (Bool × Unit {0})) Bool) (f : F) (right : B → Bool → Type 0) (b : B) (r : Bool)
    : Type 0 where
  pub shown : Bor B
  pub shows : shown.now ≡ b
  pub told : Bool
  pub is_right : right b told
  pub says : FnReturns g f (shown, (told, tt)) r

-- a selection moves the counter of its slot
abbrev pub after_select : {C : Type 0} → Made C → ℕ → Selection → History → History
after_select made slot s e = in_group (slots.select_events made slot s) ++ e

-- A slot selected for a key by these loads and given random words, and answered s: what the group was before (v) and is after (w), and
-- what its registry is (x). `accepts` takes what is right of a backend to what may be answered of it.
pub record IsSelected {C R : Type 0} (gives : R → Member → Member → Type 0) (random : List Member → C → Bool)
    (walks : List Member → C → List ℕ → List Draw → List Member → Bool → Type 0)
    (accepts : (Member → Bool → Type 0) → Member → Bool → Type 0) (load_by : Member → ℕ) (v : GroupValue C) (x : RegistryValue R)
    (slot : ℕ) (key : List ℕ) (limit : ℕ) (words : List ℕ) (s : Selection) (w : GroupValue C) : Type 0 where
  -- the answer is that of a walk over what the slot serves, each backend judged in the generation that it serves
  pub answers : HoldsOf gives x (λ key_of events. After v (λ made e. slots.SelectsIn random walks
      (accepts (Judges key_of events made e (served_at slot e))) load_by made (slot_events e) slot key limit words s))
  -- the counter of the slot moves on
  pub stands : After v (λ made e. Stands made (after_select made slot s e) w)
  -- gate, configurations and view stay
  pub site : SameSite v w
