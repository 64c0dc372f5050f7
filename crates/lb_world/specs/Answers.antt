-- The right answer to a step after a history. For most steps it is a function of the history, with what may come in its place
-- where memory is refused; readiness, verdicts and selections are relations, as what they rest on is.
use Rattle.std.specs.Prelude.{◌≡◌, ◌⊎◌, ◌↔◌, ℕ, ◌+◌, ◌^◌, Bool, true, false, not, ◌&&◌, ◌||◌, ◌==◌, nat_lt, nat_le, List, [], ◌∷◌, length}
use Rattle.std.specs.Prelude.{map, Option, Some, None, is_none, Result, Ok, Err, IsTrue, if◌then◌else◌, slice_get, MatchBool, MatchOption}
use Rattle.std.specs.List.{list_any}
use Rattle.lb_select_base.specs.Backends.{Member, same_member}
use Rattle.lb_select_base.specs.Draws.{HandedValue, LoadedGives}
use Rattle.lb_select_base.specs.Refusals.{earlier, least}
use Rattle.lb_select_base.specs.Selections.{Selects}
use Rattle.lb_select_base.specs.declared.refusal.Refusal.{Refusal}
use Rattle.lb_select_base.specs.declared.refusal.Refusal.TheVariants as refusal
use Rattle.lb_health_core.specs.Registry.{targets_after}
use Rattle.lb_health_core.specs.RegistryEvents as registry
use Rattle.lb_health_core.specs.Verdicts.{agree}
use Rattle.lb_health_view.specs.RegistrySide.{IsReady}
use Rattle.lb_rebuild_core.specs.SlotsHistory as slots
use Rattle.lb_rebuild_core.specs.SlotsCalls.{is_change, schedule_refusal, is_served}
use Rattle.lb_rebuild_core.specs.SlotCalls.{take_refusal}
use Rattle.lb_rebuild_core.specs.Stands.{left_readers, counts_after}
use Rattle.lb_world.specs.Steps.{Step}
use Rattle.lb_world.specs.declared.step.Listing.{Listing}
use Rattle.lb_world.specs.Steps as step
use Rattle.lb_world.specs.declared.answer.Answer.{Answer}
use Rattle.lb_world.specs.declared.answer.SlotCounts.{SlotCounts}
use Rattle.lb_world.specs.declared.answer.Answer.TheVariants as answer
use Rattle.lb_world.specs.Meanings.{Meaning}
use Rattle.lb_world.specs.History.{History, Entered, Work, idle, building, built, members_in, registries, gates, made, made_at, config}
use Rattle.lb_world.specs.History.{registry_of, entries, work, slot_events, past, is_free, load_of}
use Rattle.lb_world.specs.Shared.{key_by, key_of, registry_events, events_in}
use Rattle.lb_world.specs.GroupEvents.{view_events}

abbrev pub refuse : Refusal → Answer
refuse r = answer.Refused r

abbrev pub unless_refused : Option Refusal → Answer → Answer
unless_refused None a = a
unless_refused (Some r) a = refuse r

-- at what is there; refused where it isn't
abbrev pub at_one : {A : Type 0} → Option A → (A → Answer) → Answer
at_one None f = refuse refusal.NoSuch
at_one (Some x) f = f x

-- at a backend; refused where its address was
abbrev pub at_backend : Option Member → Answer → Answer
at_backend None a = refuse refusal.InvalidAddress
at_backend (Some b) a = a

-- a refusal where its cause applies
abbrev pub where_ : Bool → Refusal → Option Refusal
where_ true r = Some r
where_ false r = None

-- the refusal where a registry or a gate isn't there
abbrev pub no_such : Bool → Option Refusal
no_such there = where_ (not there) refusal.NoSuch

abbrev pub has_refused : List Listing → Bool
has_refused listings = list_any (λ l. is_none l.backend) listings

-- no number is left: for a view, or for a cell, by how many were given
abbrev pub no_number : ℕ → Option Refusal
no_number given = where_ (nat_le (2 ^ 64) given) refusal.NumbersExhausted

-- a changed membership is the next generation
abbrev pub update_answer : ℕ → Bool → Answer
update_answer n true = answer.Generation (n + 1)
update_answer n false = answer.Same n

-- what a slot answers, with the newest generation
abbrev pub asked : ℕ → slots.AskAnswer → Answer
asked n slots.cancelled = answer.Cancelled
asked n slots.building = answer.Building
asked n slots.up_to_date = answer.Idle
asked n (slots.not_due m) = answer.Wait m
asked n slots.busy = answer.Busy
asked n slots.job = answer.Build n

-- a build ends built, or failed for its cause
abbrev pub built_or_failed : ℕ → Option Refusal → Answer
built_or_failed n None = answer.Built n
built_or_failed n (Some r) = answer.BuildFailed n r

-- what a job that is being built answers, or what is built
abbrev pub of_job : Work → Answer → Answer
of_job idle a = refuse refusal.NothingInFlight
of_job building a = a
of_job (built now) a = refuse refusal.NothingInFlight

abbrev pub of_built : Work → Answer → Answer
of_built idle a = refuse refusal.NothingBuilt
of_built building a = refuse refusal.NothingBuilt
of_built (built now) a = a

abbrev pub flight_of : slots.Extra → Option ℕ
flight_of slots.nothing = None
flight_of (slots.flight n) = Some n
flight_of (slots.lost n) = None
flight_of (slots.retired n) = None
flight_of (slots.taken_out n) = None

abbrev pub lost_answer : Option ℕ → Answer
lost_answer None = refuse refusal.NothingInFlight
lost_answer (Some n) = answer.Lost n

-- by the readers in what is served, and the entries so far; a reader reads what is served
abbrev pub enter_answer : ℕ → ℕ → ℕ → Answer
enter_answer readers entered n =
    if readers == 18446744073709551615 || entered == 18446744073709551615 then refuse refusal.NumbersExhausted else answer.Reader entered n

abbrev pub leave_answer : Option (Option Entered) → Answer
leave_answer None = refuse refusal.NoSuchReader
leave_answer (Some None) = refuse refusal.NoSuchReader
leave_answer (Some (Some e)) = answer.Left e.generation

abbrev pub destroy_refusal : slots.History → Option Refusal
destroy_refusal p = take_refusal (slots.extra p) (left_readers (slots.extra p) p)

-- the numbers of a slot
abbrev pub numbers_of : slots.History → SlotCounts
numbers_of p =
    record {
      newest = slots.newest p;
      served = slots.served p;
      flight = flight_of (slots.extra p);
      waiting = slots.waits p;
      counts = counts_after p;
    }

-- a selection that was refused for memory may have drawn all the same
abbrev pub selected : ℕ → Result (Option Member) Refusal → Answer
selected t (Ok None) = answer.NoBackend t
selected t (Ok (Some b)) = answer.Backend b t
selected t (Err r) = answer.NotSelected t

-- a verdict reaches a cell that is kept, and says whether the cell's health is another than before
abbrev pub VerdictAnswers : (Member → Member) → List registry.Event → ℕ → Bool → ℕ → Answer → Type 0
VerdictAnswers key events c ok threshold a =
    (registry.IsCellKept key c events
    × (a ≡ answer.Flipped
    (not
    (agree (registry.cell_health key c events)
    (registry.cell_health key c (registry.Observed c (record { ok = ok; threshold = threshold }) ∷ events))))))
    ⊎ ((registry.IsCellKept key c events → ⊥) × (a ≡ refuse refusal.NoSuch))

module _ {C : Type 0} where
  -- a backend is ready in a generation of a group, by the live cells of its snapshot and the flags as they are
  abbrev pub Judges : History C → ℕ → ℕ → Member → Bool → Type 0
  Judges h g n b is =
      IsTrue is ↔ IsReady (key_of g h) (view_events g h) (events_in (registry_of g h) h) n b

  -- readiness is asked of the generation that a reader reads
  abbrev pub ReadyAnswers : History C → Option (Option Entered) → Option Member → Answer → Type 0
  ReadyAnswers h e None a = a ≡ refuse refusal.InvalidAddress
  ReadyAnswers h None (Some b) a = a ≡ refuse refusal.NoSuchReader
  ReadyAnswers h (Some None) (Some b) a = a ≡ refuse refusal.NoSuchReader
  ReadyAnswers h (Some (Some e)) (Some b) a = (is : Bool) × (a ≡ answer.Ready is) × Judges h e.group e.generation b is

module _ {C : Type 0} (meaning : Meaning C) where
  -- The right answer where memory is at hand, of a step whose answer is a function of the history. Readiness, verdicts and selections
  -- are relations, defined below.
  abbrev pub answer_after : History C → Step C → Option Answer
  answer_after h (step.registry rule healthy) = Some (answer.Registry (length (registries h)))
  answer_after h step.gate = Some (answer.Gate (gates h))
  answer_after h (step.group r a configs) =
      Some
      (unless_refused
      (earlier (no_such (nat_lt r (length (registries h)) && nat_lt a (gates h)))
      (earlier (least (map (meaning.refusal []) configs)) (no_number (registry.registered_after (registry_events r h) + 1))))
      (answer.Group (length (made h))))
  answer_after h (step.update g now listings) =
      Some
      (if has_refused listings then refuse refusal.InvalidAddress
      else at_one (made_at g h)
      (λ m.
      unless_refused
      (earlier (schedule_refusal (members_in listings) (slot_events g h))
      (if is_change (members_in listings) (slot_events g h)
      then no_number
      (registry.cells_given (key_of g h)
      (registry.Updated m.view (members_in listings) ∷ registry.Applied ∷ registry_events m.registry h))
      else None))
      (update_answer (slots.newest (slot_events g h)) (is_change (members_in listings) (slot_events g h)))))
  answer_after h (step.ask g s now) =
      Some
      (at_one (made_at g h)
      (λ m.
      at_one (slice_get m.configs s)
      (λ c. asked (slots.newest (slot_events g h)) (slots.ask_answer (past g s h) (not (is_free m.gate h)) now))))
  answer_after h (step.build g s now) =
      Some
      (at_one (config g s h)
      (λ c.
      of_job (work g s h)
      (built_or_failed (slots.granted (past g s h)) (meaning.refusal (slots.members_of (slots.granted (past g s h)) (slot_events g h)) c))))
  answer_after h (step.failbuild g s now) =
      Some (at_one (config g s h) (λ c. of_job (work g s h) (answer.Failed (slots.granted (past g s h)))))
  answer_after h (step.lost g s) = Some (at_one (config g s h) (λ c. lost_answer (flight_of (slots.extra (past g s h)))))
  answer_after h (step.publish g s) =
      Some
      (at_one (config g s h)
      (λ c.
      of_built (work g s h)
      (if is_served s (slot_events g h)
      then answer.Published (slots.granted (past g s h))
      else answer.Abandoned (slots.granted (past g s h)))))
  answer_after h (step.abandon g s) =
      Some (at_one (config g s h) (λ c. of_built (work g s h) (answer.Abandoned (slots.granted (past g s h)))))
  answer_after h (step.enter g s) =
      Some
      (at_one (config g s h)
      (λ c. enter_answer (slots.readers (slots.served (past g s h)) (past g s h)) (length (entries h)) (slots.served (past g s h))))
  answer_after h (step.ready t b) = None
  answer_after h (step.leave t) = Some (leave_answer (slice_get (entries h) t))
  answer_after h (step.destroy g s) =
      Some (at_one (config g s h) (λ c. unless_refused (destroy_refusal (past g s h)) answer.Destroyed))
  answer_after h (step.select g s key limit words) = None
  answer_after h (step.verdict r c ok threshold) = None
  answer_after h (step.enable g b) = Some (at_backend b (at_one (made_at g h) (λ m. answer.Done)))
  answer_after h (step.disable g b) = Some (at_backend b (at_one (made_at g h) (λ m. answer.Done)))
  answer_after h (step.cancel g) = Some (at_one (made_at g h) (λ m. answer.Cancelled))
  answer_after h (step.targets r) =
      Some
      (at_one (slice_get (registries h) r)
      (λ m. answer.Targets (targets_after (key_by m.rule) (registry.Applied ∷ registry_events r h))))
  answer_after h (step.counts g s) = Some (at_one (config g s h) (λ c. answer.Numbers (numbers_of (past g s h))))
  answer_after h (step.timing g s) = Some (at_one (config g s h) (λ c. answer.Timed (slots.timing (past g s h))))
  answer_after h (step.load g b load) = Some (at_backend b (at_one (made_at g h) (λ m. answer.Done)))

-- what comes in its place where memory is refused: nothing else, where the step takes none
abbrev pub without_memory : {C : Type 0} → Step C → Answer → Answer
without_memory st (answer.Registry n) = refuse refusal.OutOfMemory
without_memory st (answer.Gate n) = refuse refusal.OutOfMemory
without_memory st (answer.Group n) = refuse refusal.OutOfMemory
without_memory st (answer.Generation n) = refuse refusal.OutOfMemory
without_memory st (answer.Same n) = refuse refusal.OutOfMemory
without_memory st (answer.Built n) = answer.BuildFailed n refusal.OutOfMemory
without_memory st (answer.Reader t n) = refuse refusal.OutOfMemory
without_memory st (answer.Targets ts) = refuse refusal.OutOfMemory
without_memory (step.load g b load) answer.Done = refuse refusal.OutOfMemory
without_memory st a = a

module _ {C : Type 0} (meaning : Meaning C) where
  -- A selection from a slot with this configuration, in whose group g generation n is served: over the membership of n, judged
  -- by the snapshot of n. More random words than the limit must be given where they may be drawn.
  abbrev pub SelectsIn : History C → ℕ → ℕ → ℕ → C → List ℕ → ℕ → List ℕ → Answer → Type 0
  SelectsIn h g s n c key limit words a =
      MatchBool (meaning.random (slots.members_of n (slot_events g h)) c && nat_le (length words) limit)
      (a ≡ refuse refusal.NotEnoughWords)
      ((r : Result (Option Member) Refusal) × (t : HandedValue)
      × Selects same_member (Judges h g n) limit (LoadedGives (λ b. load_of g b h))
      (meaning.walks (slots.members_of n (slot_events g h)) c key)
      (record { tickets = slots.drawn (past g s h); words = words }) r t
      × (a ≡ selected t.tickets r))

  -- none past the last slot of a group that is there
  abbrev pub SelectAnswers : History C → ℕ → ℕ → List ℕ → ℕ → List ℕ → Answer → Type 0
  SelectAnswers h g s key limit words a =
      MatchOption (made_at g h) (a ≡ refuse refusal.NoSuch)
      (λ m.
      MatchOption (slice_get m.configs s) (a ≡ answer.NoBackend 0)
      (λ c. SelectsIn h g s (slots.served (past g s h)) c key limit words a))

  -- a is a right answer to the step after this history
  abbrev pub Answers : History C → Step C → Answer → Type 0
  Answers h (step.ready t b) a = ReadyAnswers h (slice_get (entries h) t) b a
  Answers h (step.select g s key limit words) a = SelectAnswers h g s key limit words a
  Answers h (step.verdict r c ok threshold) a =
      MatchOption (slice_get (registries h) r) (a ≡ refuse refusal.NoSuch)
      (λ m. VerdictAnswers (key_by m.rule) (registry_events r h) c ok threshold a)
  Answers h st a = MatchOption (answer_after meaning h st) ⊥ (λ x. (a ≡ x) ⊎ (a ≡ without_memory st x))

  -- every answer is right after what came before it
  abbrev pub IsRun : History C → Type 0
  IsRun [] = Unit {0}
  IsRun ((st, a) ∷ h) = IsRun h × Answers h st a
