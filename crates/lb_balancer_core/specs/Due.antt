-- When a worker's turn has a build to run, and what it then ends with.
use Rattle.std.specs.Prelude.{◌≡◌, ◌⊎◌, ◌+◌, ◌<◌, ℕ, true, false, nat_lt, MatchBool, length, Result, Ok}
use Rattle.lb_select_base.specs.declared.refusal.Refusal.{Refusal}
use Rattle.lb_rebuild_core.specs.Gate.{GateValue}
use Rattle.lb_rebuild_core.specs.SlotsHistory as core
use Rattle.lb_rebuild_core.specs.Stands.{Made}
use Rattle.lb_rebuild_core.specs.GroupHistory.{History, slot_events}
use Rattle.lb_rebuild_core.specs.GroupStates.{GroupValue, Stands}
use Rattle.lb_balancer_core.specs.declared.turn.Turn.{Turn}
use Rattle.lb_balancer_core.specs.declared.turn.Turn.TheVariants as turn

-- the gate is free, or its permit is that of the slot's own retired selector, in which no reader is left
abbrev pub IsClear : GateValue → History → ℕ → Type 0
IsClear g e slot =
    (g.out ≡ false)
    ⊎ ((n : ℕ) × ((core.extra (core.past_of slot (slot_events e)) ≡ core.retired n)
    × (core.readers n (core.past_of slot (slot_events e)) ≡ 0)))

module _ {C : Type 0} where
  -- a slot that waits, of a group that is not cancelled
  pub record IsDue (made : Made C) (e : History) (slot : ℕ) : Type 0 where
    pub there : slot < length made.configs
    pub live : core.is_cancelled (slot_events e) ≡ false
    pub waits : core.waits (core.past_of slot (slot_events e)) ≡ true

  -- The slot serves the newest generation, which the turn answered, or one more of its builds has failed, that of the newest one.
  abbrev pub EndsTurn : Made C → History → ℕ → Result Turn Refusal → GroupValue C → Type 0
  EndsTurn made e slot r w =
      (f : History) × Stands made f w × (core.newest (slot_events f) ≡ core.newest (slot_events e))
      × (((r ≡ Ok (turn.Published (core.newest (slot_events f))))
      × (core.served (core.past_of slot (slot_events f)) ≡ core.newest (slot_events f)))
      ⊎ ((c : Refusal) × ((r ≡ Ok (turn.Failed (core.newest (slot_events f)) c))
      × (core.all_failures (core.past_of slot (slot_events f)) ≡ core.all_failures (core.past_of slot (slot_events e)) + 1))))

  -- The turn that read this moment: before the slot's next build is due it answers when that is, and else it ends so.
  abbrev pub EndsAt : ℕ → Made C → History → ℕ → Result Turn Refusal → GroupValue C → Type 0
  EndsAt now made e slot r w =
      MatchBool (nat_lt now (core.due_moment (core.past_of slot (slot_events e))))
      (r ≡ Ok (turn.NotDue (core.due_moment (core.past_of slot (slot_events e))))) (EndsTurn made e slot r w)

  -- the turn ends so at one of the moments that the clock may read
  abbrev pub EndsDue : {K : Type 0} → (K → ℕ → K → Type 0) → K → Made C → History → ℕ → Result Turn Refusal → GroupValue C → Type 0
  EndsDue {K} reads k made e slot r w = (now : ℕ) × ((l : K) × (reads k now l × EndsAt now made e slot r w))
