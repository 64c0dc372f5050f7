-- What holds of each step of a history, and what holds after each.
use Rattle.std.specs.Prelude.{ℕ, [], ◌∷◌}
use Rattle.lb_select_base.specs.Backends.{Member}
use Rattle.lb_health_view.specs.RegistrySide.{IsReady}
use Rattle.lb_world.specs.Steps.{Step}
use Rattle.lb_world.specs.declared.answer.Answer.{Answer}
use Rattle.lb_world.specs.History.{History, registry_of}
use Rattle.lb_world.specs.Shared.{key_of, events_in}
use Rattle.lb_world.specs.GroupEvents.{view_events}
use Rattle.lb_world.specs.Promises.{JudgedBy}

module _ {C : Type 0} where
  -- of each step with its answer, and what came before it
  abbrev pub EachStep : (History C → Step C → Answer → Type 0) → History C → Type 0
  EachStep P [] = Unit {0}
  EachStep P ((st, a) ∷ h) = P h st a × EachStep P h

  -- of the history, and of it without its last steps
  abbrev pub Always : (History C → Type 0) → History C → Type 0
  Always P [] = P []
  Always P ((st, a) ∷ h) = P ((st, a) ∷ h) × Always P h

  -- what is ready in a generation is so by the members and the cells of that generation, and by no other's
  abbrev pub JudgedByOwn : History C → Type 0
  JudgedByOwn h =
      (g n : ℕ) (b : Member) → IsReady (key_of g h) (view_events g h) (events_in (registry_of g h) h) n b → JudgedBy g n b h
