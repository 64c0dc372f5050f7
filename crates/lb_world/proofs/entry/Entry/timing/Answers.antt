-- The timing that the core reads is the history's.
use Rattle.lb_rebuild_core.specs.SlotsHistory as slots
use Rattle.lb_world.proofs.Words.{Answer, inl, refl, Step, sym}
use Rattle.lb_world.proofs.Entries.{next-core, next-refused, reading-told, stays, unshared}
use Rattle.lb_world.proofs.entry.Entry.timing.Goals as goal

pub returns-in-Some : goal.returns-in-Some
returns-in-Some g c =
    rw (← c.self.view_is)
    (λ z v h n b.
    next-core b refl
    (inl (sym (rw c.in-Some.is at (reading-told b.is c.args.slot slots.timing Answer.Timed _ (c.timing.ensures _ _ b.is.core_is)))))
    (stays b.is) refl (λ s. refl) (λ m. refl) refl (unshared b (Step.timing n c.args.slot) (Answer.Timed c.in-Some.timing) refl refl))

pub returns-in-None : goal.returns-in-None
returns-in-None g c =
    rw (← c.self.view_is)
    (λ z v h n b.
    next-refused b refl
    (inl (sym (rw c.in-None.is at (reading-told b.is c.args.slot slots.timing Answer.Timed _ (c.timing.ensures _ _ b.is.core_is)))))
    (stays b.is))
