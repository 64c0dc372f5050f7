-- The flight that the core lost is the one that was read.
use Rattle.lb_rebuild_core.specs.SlotsCalls.{lose_refusal}
use Rattle.lb_world.specs.Answers.{lost_answer}
use Rattle.lb_world.specs.Internal.Calls.{number_of}
use Rattle.lb_rebuild_core.specs.SlotsHistory as slots
use Rattle.lb_rebuild_core.specs.GroupHistory as group
use Rattle.lb_world.proofs.Words.{◌∙◌, ◌≡◌, Answer, right_answer, ap, at_one, at_slot, Before, Bool, cond, config, configs_of, EntryValue}
use Rattle.lb_world.proofs.Words.{flight_after, GateValue, History, inl, group_events, length, Meaning, nat_lt, None, Option, past, past_of}
use Rattle.lb_world.proofs.Words.{refl, Refusal, RegistryValue, site, Some, Step, sym, true, unless_refused, WorldRule, ℕ}
use Rattle.lb_world.proofs.Entries.{next-core, next-refused, reading-told, same-flight, unshared}
use Rattle.lb_world.proofs.entry.Entry.lost.Goals as goal

-- where there is a flight, what was read of it is its generation
told-flight : (there flies : Bool) (n : ℕ) (r : Option Refusal)
    → cond there (cond flies None (Some Refusal.NothingInFlight)) (Some Refusal.NoSuch) ≡ r
    → at_one (cond there (Some (cond flies (Some n) None)) None) lost_answer
    ≡ unless_refused r (Answer.Lost (number_of (cond there (Some (cond flies (Some n) None)) None)))
told-flight true true n r is = rw (← is) refl
told-flight there flies n r is = rw (← is) refl

module _ {C : Type 0} {M : Meaning C} {h : History C} {g : ℕ} {e : EntryValue C} {z : GateValue} {v : RegistryValue WorldRule}
    (b : Before M h g e z v) where
  told-lost : (s : ℕ) (f : Option (Option ℕ)) (r : Option Refusal)
      → f ≡ at_slot (site e.core) s (flight_after (past_of s (group.slot_events (group_events g h))))
      → lose_refusal (site e.core) s (group.slot_events (group_events g h)) ≡ r
      → right_answer M h (Step.lost g s) ≡ unless_refused r (Answer.Lost (number_of f))
  told-lost s f r to is =
      let x = slots.extra (past_of s (group.slot_events (group_events g h))) in
      ap (λ o. at_one (config g s h) (λ c. lost_answer o)) (same-flight (slots.extra (past g s h)))
      ∙ reading-told b.is s flight_after lost_answer f to
      ∙ rw to (told-flight (nat_lt s (length (configs_of e.core.group))) (slots.is_flight x) (slots.flight_number x) r is)

pub returns : goal.returns
returns g c =
    rw (← c.self.view_is)
    (λ z v h n b.
    let flight = c.flight-flight.ensures _ _ b.is.core_is in
    elim c.match-worker_lost.branch [
      | goal.in-Ok w ↦
          rw (w.result-is, w.number_in.ensures)
          (next-core b refl (inl (sym (told-lost b c.args.slot _ None flight (w.in-Ok.ensures.answers _ _ b.is.core_is))))
          (c.worker_lost.ensures.site, w.in-Ok.ensures.stands _ _ b.is.core_is) refl (λ s. refl) (λ m. refl) refl
          (unshared b (Step.lost n c.args.slot) (Answer.Lost (number_of c.flight-flight.result)) refl refl))
      | goal.in-Err w ↦
          rw w.result-is
          (next-refused b refl (inl (sym (told-lost b c.args.slot _ (Some _) flight (w.in-Err.ensures.answers _ _ b.is.core_is))))
          (c.worker_lost.ensures.site, w.in-Err.ensures.stands _ _ b.is.core_is))
    ])
