-- What an update and a worker's turn do by the calls of a port: which calls, in which order, and what each answered.
-- The relations of the calls are those of the port; P is the port, and K the clock.
use Rattle.std.specs.Prelude.{◌≡◌, ◌⊎◌, ℕ, Bool, true, false, MatchBool, List, Option, None, Result, Ok, Err}
use Rattle.lb_select_base.specs.Backends.{Member}
use Rattle.lb_select_base.specs.declared.refusal.Refusal.{Refusal}
use Rattle.lb_select_base.specs.declared.refusal.Refusal.TheVariants as refusal
use Rattle.lb_rebuild_core.specs.Values.{Task, BuiltValue, RetiredValue, PermitValue}
use Rattle.lb_rebuild_core.specs.declared.answers.Ask.{Ask}
use Rattle.lb_rebuild_core.specs.declared.answers.Ask.TheVariants as asks
use Rattle.lb_rebuild_core.specs.declared.answers.Publication.{Publication}
use Rattle.lb_rebuild_core.specs.declared.answers.Publication.TheVariants as told
use Rattle.lb_rebuild_core.specs.declared.membership.Scheduled.{Scheduled}
use Rattle.lb_balancer_core.specs.Builds.{RefusedValue, IsCauseOf}
use Rattle.lb_balancer_core.specs.Calls.{owed_of}
use Rattle.lb_balancer_core.specs.declared.turn.Turn.{Turn}
use Rattle.lb_balancer_core.specs.declared.turn.Turn.TheVariants as turn

-- the generation that was answered
abbrev pub generation_in : Result Scheduled Refusal → Result ℕ Refusal
generation_in (Ok s) = Ok s.generation
generation_in (Err e) = Err e

module _ {K D P : Type 0} (reads : K → ℕ → K → Type 0)
    (finds : D → Result (List Member × List (Member × Bool)) Refusal → Type 0)
    (scheduled : P → List Member → List (Member × Bool) → ℕ → Result Scheduled Refusal → P → Type 0) where
  -- What was found is scheduled once, at the next reading; a fault is returned, without a reading and without a call.
  abbrev pub UpdatedBy : K → P → Result (List Member × List (Member × Bool)) Refusal → Result ℕ Refusal → K → P → Type 0
  UpdatedBy k p (Ok f) r l q =
      (now : ℕ) × reads k now l × (a : Result Scheduled Refusal) × scheduled p f.0 f.1 now a q × (r ≡ generation_in a)
  UpdatedBy k p (Err e) r l q = (r ≡ Err e) × (l ≡ k) × (q ≡ p)

  -- the clock is read, the discovery is asked, and what it found is scheduled
  abbrev pub UpdatedThrough : D → K → P → Result ℕ Refusal → K → P → Type 0
  UpdatedThrough d k p r l q =
      (start : ℕ) × (m : K) × reads k start m
      × (f : Result (List Member × List (Member × Bool)) Refusal) × finds d f × UpdatedBy m p f r l q

-- a retired selector that can't be taken is passed over where there is none, or readers are in it
abbrev pub is_passed_over : Refusal → Bool
is_passed_over (refusal.StillRead n) = true
is_passed_over refusal.NothingRetired = true
is_passed_over refusal.InvalidAddress = false
is_passed_over refusal.Discovery = false
is_passed_over refusal.TooManyBackends = false
is_passed_over refusal.WeightTooLarge = false
is_passed_over refusal.TooManyPoints = false
is_passed_over refusal.HealthCheckSet = false
is_passed_over refusal.GenerationsExhausted = false
is_passed_over refusal.GroupCancelled = false
is_passed_over refusal.NoSuch = false
is_passed_over refusal.OutOfMemory = false
is_passed_over refusal.NothingInFlight = false
is_passed_over refusal.NothingBuilt = false
is_passed_over refusal.NoSuchReader = false
is_passed_over refusal.NotEnoughWords = false
is_passed_over refusal.NumbersExhausted = false

-- what a turn that published came to
abbrev pub turn_of : Publication → Turn
turn_of (told.Published n) = turn.Published n
turn_of (told.Abandoned n) = turn.Abandoned n

module _ {S C W K P : Type 0} (refuses : List Member → C → Option Refusal) (reads ends : K → ℕ → K → Type 0)
    (taken : P → ℕ → Result RetiredValue Refusal → P → Type 0) (reported : P → ℕ → PermitValue → P → Type 0)
    (asked : P → ℕ → ℕ → Result (Ask S C W) Refusal → P → Type 0)
    (published : P → BuiltValue C → Publication → P → Type 0) (failed : P → RefusedValue C → ℕ → P → Type 0) (slot : ℕ) where
  -- the job was built, which ended at the next reading, one that borrowed what was built, and was published
  abbrev pub Publishes : Task C → P → K → Turn → P → K → Type 0
  Publishes j p k t q l =
      (refuses j.members j.config ≡ None) × (end : ℕ) × ends k end l
      × (u : Publication) × published p (record { task = j; ended = end }) u q × (t ≡ turn_of u)

  -- its build was refused, and the job failed at the next reading; the turn says its generation and the cause
  abbrev pub Fails : Task C → P → K → Turn → P → K → Type 0
  Fails j p k t q l =
      (end : ℕ) × reads k end l × (r : RefusedValue C) × failed p r end q
      × (r.task ≡ j) × IsCauseOf refuses j r.refusal × (t ≡ turn.Failed j.generation r.refusal)

  -- the turn ends as it stood
  abbrev pub Ends : Result Turn Refusal → P → K → Result Turn Refusal → P → K → Type 0
  Ends a p k r q l = (r ≡ a) × (q ≡ p) × (l ≡ k)

  -- what follows an answer to the ask
  abbrev pub Answered : Result (Ask S C W) Refusal → P → K → Result Turn Refusal → P → K → Type 0
  Answered (Ok (asks.Job j)) p k (Ok t) q l = Publishes j p k t q l ⊎ Fails j p k t q l
  Answered (Ok (asks.Job j)) p k (Err e) q l = ⊥
  Answered (Ok asks.Cancelled) p k r q l = Ends (Ok turn.Cancelled) p k r q l
  Answered (Ok asks.Building) p k r q l = Ends (Ok turn.Building) p k r q l
  Answered (Ok asks.Nothing) p k r q l = Ends (Ok turn.Nothing) p k r q l
  Answered (Ok (asks.NotDue m)) p k r q l = Ends (Ok (turn.NotDue m)) p k r q l
  Answered (Ok asks.Busy) p k r q l = Ends (Ok turn.Busy) p k r q l
  Answered (Err e) p k r q l = Ends (Err e) p k r q l

  -- the clock is read, and the slot asked
  abbrev pub Asks : P → K → Result Turn Refusal → P → K → Type 0
  Asks p k r q l =
      (now : ℕ) × (m : K) × reads k now m
      × (a : Result (Ask S C W) Refusal) × (n : P) × asked p slot now a n × Answered a n m r q l

  -- what follows a try to take the retired selector: it is reported destroyed where it could be taken
  abbrev pub Clears : Result RetiredValue Refusal → P → K → Result Turn Refusal → P → K → Type 0
  Clears (Ok v) p k r q l = (m : P) × reported p slot (owed_of v) m × Asks m k r q l
  Clears (Err e) p k r q l = MatchBool (is_passed_over e) (Asks p k r q l) (Ends (Err e) p k r q l)

  -- a worker's turn
  abbrev pub Turned : P → K → Result Turn Refusal → P → K → Type 0
  Turned p k r q l = (a : Result RetiredValue Refusal) × (m : P) × taken p slot a m × Clears a m k r q l
