-- The numbers that the core reads are the history's.
use Rattle.lb_world.specs.Answers.{numbers_of}
use Rattle.lb_world.proofs.Words.{Answer, inl, refl, Step, sym}
use Rattle.lb_world.proofs.Entries.{next-core, next-refused, reading-told, stays, unshared}
use Rattle.lb_world.proofs.entry.Entry.counts.Goals as goal

pub returns-in-Some : goal.returns-in-Some
returns-in-Some g c =
    λ z v h n b.
    next-core b refl
    (inl (sym (rw c.in-Some.is at (reading-told b.is c.args.slot numbers_of Answer.Numbers _ (c.numbers.ensures _ _ b.is.core_is)))))
    (stays b.is) refl (λ s. refl) (λ m. refl) refl (unshared b (Step.counts n c.args.slot) (Answer.Numbers c.in-Some.numbers) refl refl)

pub returns-in-None : goal.returns-in-None
returns-in-None g c =
    λ z v h n b.
    next-refused b refl
    (inl (sym (rw c.in-None.is at (reading-told b.is c.args.slot numbers_of Answer.Numbers _ (c.numbers.ensures _ _ b.is.core_is)))))
    (stays b.is)
