-- What a refused step leaves: all that is known of a world, and every answer to come, is as if the step had never been asked.
-- A selection that memory was refused to has drawn tickets, and left all else.
use Rattle.std.specs.Prelude.{◌≡◌, ◌↔◌, ◌≤◌, ◌==◌, ◌+◌, ◌%◌, ◌^◌, ℕ, [], ◌∷◌, ◌++◌, if◌then◌else◌}
use Rattle.lb_select_base.specs.Backends.{Member}
use Rattle.lb_rebuild_core.specs.GroupHistory as group
use Rattle.lb_rebuild_core.specs.SlotsHistory as slots
use Rattle.lb_world.specs.Steps.{Step}
use Rattle.lb_world.specs.Steps as step
use Rattle.lb_world.specs.declared.answer.Answer.{Answer}
use Rattle.lb_world.specs.declared.answer.Answer.TheVariants as answer
use Rattle.lb_world.specs.Meanings.{Meaning}
use Rattle.lb_world.specs.History.{History, registries, gates, made, entries, work, past, is_out, is_grant, is_failure}
use Rattle.lb_world.specs.History.{is_destruction, count_on, load_of}
use Rattle.lb_world.specs.Shared.{registry_events}
use Rattle.lb_world.specs.GroupEvents.{group_events}
use Rattle.lb_world.specs.Answers.{Answers, IsRun}

module _ {C : Type 0} where
  -- Two histories give the same of what was made and who reads, what is held of each job, what happened to each registry, which
  -- permits are out and what was counted for them, and every load.
  pub record RestAlike (h k : History C) : Type 0 where
    pub registries_made : registries h ≡ registries k
    pub gates_made : gates h ≡ gates k
    pub groups_made : made h ≡ made k
    pub readers : entries h ≡ entries k
    pub works : (g s : ℕ) → work g s h ≡ work g s k
    pub shared : (r : ℕ) → registry_events r h ≡ registry_events r k
    pub outs : (a : ℕ) → is_out a h ≡ is_out a k
    pub grants : (a : ℕ) → count_on is_grant a h ≡ count_on is_grant a k
    pub failures : (a : ℕ) → count_on is_failure a h ≡ count_on is_failure a k
    pub destructions : (a : ℕ) → count_on is_destruction a h ≡ count_on is_destruction a k
    pub loads : (g : ℕ) (b : Member) → load_of g b h ≡ load_of g b k

  -- They give the same of everything: of what happened to each group too, joined with its view, which tells its own events, those of
  -- its view, and the cells of each generation.
  pub record TellsAlike (h k : History C) : Type 0 where
    pub rest : RestAlike h k
    pub joined : (g : ℕ) → group_events g h ≡ group_events g k

  -- the history without the steps that were refused
  abbrev pub unrefused : History C → History C
  unrefused [] = []
  unrefused ((st, answer.Refused r) ∷ h) = unrefused h
  unrefused ((st, a) ∷ h) = (st, a) ∷ unrefused h

  -- Only the counter of tickets of one slot went on, by one ticket more than the limit at most; it is at t now. So the group's view
  -- and the cells of its generations are as they were.
  pub record DrewAlone (h now : History C) (g s limit t : ℕ) : Type 0 where
    pub tickets : ℕ
    pub few : tickets ≤ limit + 1
    pub counter : t % 2 ^ 64 ≡ (slots.drawn (past g s h) + tickets) % 2 ^ 64
    pub joined : (i : ℕ) → group_events i now
        ≡ (if g == i then group.At s (slots.Drew t) ∷ group_events i h else group_events i h)
    pub rest : RestAlike now h

module _ {C : Type 0} (M : Meaning C) where
  -- after either history the same answers are right, whatever the step
  abbrev pub AnswersAlike : History C → History C → Type 0
  AnswersAlike h k = (st : Step C) (a : Answer) → Answers M h st a ↔ Answers M k st a

  -- Whatever came after a step: all is given as without it, each answer to come is right exactly where it is so without it, and
  -- what came after is a run without it exactly where it is one with it.
  pub record IsAsBefore (h : History C) (st : Step C) (a : Answer) : Type 0 where
    pub told : (later : History C) → TellsAlike (later ++ (st, a) ∷ h) (later ++ h)
    pub answered : (later : History C) → AnswersAlike (later ++ (st, a) ∷ h) (later ++ h)
    pub run : (later : History C) → Answers M h st a → IsRun M (later ++ (st, a) ∷ h) ↔ IsRun M (later ++ h)

  -- A step that is answered with a refusal changes nothing. A build that fails is no refused step.
  abbrev pub RefusedStays : History C → Step C → Answer → Type 0
  RefusedStays h st (answer.Refused r) = IsAsBefore h st (answer.Refused r)
  RefusedStays h (step.select g s key limit words) (answer.NotSelected t) =
      DrewAlone h ((step.select g s key limit words, answer.NotSelected t) ∷ h) g s limit t
  RefusedStays h st a = Unit {0}
