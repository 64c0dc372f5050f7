-- A run that is driven by the calls of a port: each answer is done by the call that it names, and what came of it is the run's next event.
use Rattle.std.specs.Prelude.{◌≡◌, ℕ, Bool, true, false, List, [], ◌∷◌, Result}
use Rattle.lb_select_base.specs.declared.refusal.Refusal.{Refusal}
use Rattle.lb_background.specs.declared.event.Event.{Event}
use Rattle.lb_background.specs.declared.event.Event.TheVariants as on
use Rattle.lb_background.specs.declared.event.Action.{Action}
use Rattle.lb_background.specs.declared.event.Action.TheVariants as to
use Rattle.lb_background.specs.declared.event.Awaited.{Awaited}
use Rattle.lb_background.specs.declared.event.Awaited.TheVariants as until
use Rattle.lb_background.specs.History.{Heard, last}

-- unless the run is to end, which is looked at first, an answer is acted on
module _ {P : Type 0} (looks : P → Bool → P → Type 0) (acts : P → Action → Event → P → Type 0) where
  abbrev pub Unless : Bool → P → Action → Event → P → Type 0
  Unless true p a e q = (e ≡ on.Shutdown) × (q ≡ p)
  Unless false p a e q = acts p a e q

  abbrev pub ActsUnlessShut : P → Action → Event → P → Type 0
  ActsUnlessShut p a e q = (shut : Bool) × (m : P) × looks p shut m × Unless shut m a e q

-- the moment and a number, read one after the other
abbrev pub Reads : {P : Type 0} → (P → ℕ → P → Type 0) → (P → ℕ → P → Type 0) → P → ℕ → ℕ → P → Type 0
Reads {P} moments numbers p now number q = (m : P) × moments p now m × numbers m number q

-- from one event to the next: the moment and the number that are read after an event, and what is done for an answer
module _ {P : Type 0} (reads : P → ℕ → ℕ → P → Type 0) (does : P → Action → Event → P → Type 0) where
  -- the next event: the start, and later what came of the last answer
  abbrev pub Told : P → List Heard → Event → P → Type 0
  Told p [] e q = (e ≡ on.Start) × (q ≡ p)
  Told p (x ∷ h) e q = does p x.action e q

  abbrev pub Driven : P → List Heard → P → Type 0
  Driven p [] q = q ≡ p
  Driven p (x ∷ h) q = (a : P) × (b : P) × Driven p h a × Told a h x.event b × reads b x.at x.given q

  -- the whole of a run, from its start to its end
  abbrev pub DrivenToEnd : (List Heard → Type 0) → P → P → Type 0
  DrivenToEnd Runs p q = (h : List Heard) × Runs h × (last h ≡ to.Return) × Driven p h q

-- an answer is acted on by one call: an update with what it answers, a pass of checks, the notifier, and the wait for a moment, for
-- targets or for the end, with the event that came of it
module _ {P : Type 0} (updates : P → Result ℕ Refusal → P → Type 0) (checks tells : P → P → Type 0)
    (waits : P → Awaited → Event → P → Type 0) where
  abbrev pub Acts : P → Action → Event → P → Type 0
  Acts p to.Update e q = (r : Result ℕ Refusal) × updates p r q × (e ≡ on.Updated r)
  Acts p to.Check e q = checks p q × (e ≡ on.Checked)
  Acts p to.Ready e q = tells p q × (e ≡ on.Told)
  Acts p (to.SleepUntil moment) e q = waits p (until.Moment moment) e q
  Acts p to.WaitTargets e q = waits p until.Targets e q
  Acts p to.Hold e q = waits p until.End e q
  Acts p to.Return e q = ⊥

-- the answer that asks for a wait
abbrev pub to_await : Awaited → Action
to_await (until.Moment moment) = to.SleepUntil moment
to_await until.Targets = to.WaitTargets
to_await until.End = to.Hold

-- the waits of a port that is never asked to wait for targets, or for the end alone: such a wait is the end
module _ {P : Type 0} (sleeps : P → ℕ → Event → P → Type 0) where
  abbrev pub Sleeps : P → Awaited → Event → P → Type 0
  Sleeps p (until.Moment moment) e q = sleeps p moment e q
  Sleeps p until.Targets e q = (e ≡ on.Shutdown) × (q ≡ p)
  Sleeps p until.End e q = (e ≡ on.Shutdown) × (q ≡ p)

-- what a run asks for can be done
abbrev pub CanDoAll : (Action → Bool) → (Action → Type 0) → Type 0
CanDoAll asks can_do = (a : Action) → asks a ≡ true → can_do a

-- what a run by turns asks for once it began, but for the end
abbrev pub is_turn : Action → Bool
is_turn to.WaitTargets = false
is_turn to.Hold = false
is_turn to.Return = false
is_turn a = true
