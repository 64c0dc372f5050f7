-- What is left to be looked at are notes of before, and what left were their views.
use Rattle.std.proofs.Common.{ℕ, All, Bool}
use Rattle.std.specs.Arc.{arc_value}
use Rattle.lb_threads_core.specs.Internal.Leaving.{HaveLeft, IsNoteOf}
use Rattle.lb_threads_core.proofs.registry.remove_gone.Given as goal

abbrev pub invariant-loop : goal.invariant-loop
invariant-loop g l =
    (is_of : ℕ → Bool) → All (λ n. IsNoteOf is_of (arc_value n)) l.fn.notes.items
    → All (λ n. IsNoteOf is_of (arc_value n)) l.notes.items × HaveLeft g.R.KeyRule.gives is_of l.fn.registry l.registry
