-- What a signal sends its watches.
use Rattle.std.specs.Prelude.{◌≡◌, ◌≢◌, ◌≤◌, ◌⊎◌, ℕ, Bool, Option, Some, None, if◌then◌else◌, ◌==◌}
use Rattle.atomic_table.specs.Seated.{TableId}
use Rattle.lb_background.specs.declared.event.Event.{Event}
use Rattle.lb_background.specs.declared.event.Event.TheVariants as on

-- of which pair a signal is, and whether the latest that it sent is the end
pub record SignalValue : Type 0 where
  pub pair : TableId
  pub latest : Bool

abbrev pub signal : TableId → Bool → SignalValue
signal pair latest = record { pair = pair; latest = latest }

-- what a signal that isn't gone says: the end where that is the latest that it sent, else nothing
abbrev pub told : Bool → Option Event
told latest = if latest then Some on.Shutdown else None

-- nothing, the end, or that the signal is gone
abbrev pub IsOfSignal : Option Event → Type 0
IsOfSignal e = (e ≡ None) ⊎ (e ≡ Some on.Shutdown) ⊎ (e ≡ Some on.Closed)

-- what the word of a line says
abbrev pub event_of : ℕ → Option Event
event_of word = if word == 0 then None else if word == 1 then Some on.Shutdown else Some on.Closed

-- the word that says it
abbrev pub word_of : Option Event → ℕ
word_of (Some on.Shutdown) = 1
word_of (Some on.Closed) = 2
word_of e = 0

-- why a wait ended: there is something else than was heard, or the clock's last reading had come to the moment
abbrev pub EndsUntil : {K : Type 0} → (K → ℕ → K → Type 0) → ℕ → Option Event → K → Option Event → Type 0
EndsUntil {K} reads moment heard after stands =
    (word_of stands ≢ word_of heard) ⊎ ((before : K) × (now : ℕ) × reads before now after × (moment ≤ now))
