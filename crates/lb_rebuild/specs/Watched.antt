-- What contracts see of a group whose generations are on a board.
use Rattle.std.specs.Prelude.{ℕ, List, ◌∷◌, map, Result, Ok, Err, cond}
use Rattle.lb_select_base.specs.declared.refusal.Refusal.{Refusal}
use Rattle.lb_rebuild_core.specs.declared.answers.Publication.{Publication}
use Rattle.lb_rebuild_core.specs.declared.answers.Publication.TheVariants as told
use Rattle.lb_rebuild_core.specs.declared.membership.Scheduled.{Scheduled}
use Rattle.lb_rebuild.specs.Pass.{BoardId}
use Rattle.lb_rebuild_core.specs.Values.{SlotValue, SlotsValue}
use Rattle.lb_rebuild_core.specs.GroupStates.{GroupValue}

-- what the words of a group's board are: its newest generation, and what each slot serves
abbrev pub words_of : {C : Type 0} → SlotsValue C → List ℕ
words_of {C} v = v.newest ∷ map (λ (x : SlotValue C). x.serving.generation) v.slots

-- on which board, the group, what was written on the board, and in how many steps
pub record WatchedValue (C : Type 0) : Type 0 where
  pub board : BoardId
  pub core : GroupValue C
  pub written : List ℕ
  pub steps : ℕ

-- how many steps a schedule makes on the board: one where the membership is another one
abbrev pub schedule_steps : Result Scheduled Refusal → ℕ
schedule_steps (Ok s) = cond s.changed 1 0
schedule_steps (Err e) = 0

-- how many steps a publication makes on the board: one where the selector is served
abbrev pub publish_steps : {B : Type 0} → Result Publication B → ℕ
publish_steps (Ok (told.Published n)) = 1
publish_steps (Ok (told.Abandoned n)) = 0
publish_steps (Err b) = 0
