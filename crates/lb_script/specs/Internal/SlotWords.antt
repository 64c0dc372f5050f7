-- The steps that name a slot alone: what each of their words asks for.
use Rattle.std.specs.Prelude.{ℕ, List, Option, Some, None}
use Rattle.lb_world.specs.Steps.{Step}
use Rattle.lb_world.specs.Steps as step
use Rattle.lb_script.specs.declared.kinds.Kind.{Kind}
use Rattle.lb_script.specs.declared.plain.SlotWord.{SlotWord}
use Rattle.lb_script.specs.declared.plain.SlotWord.TheVariants as word
use Rattle.lb_script.specs.StepLines.{at_slot, lone_step_of}

-- the step that a word makes of a group and a slot
abbrev pub slot_word_made : SlotWord → ℕ → ℕ → Step Kind
slot_word_made word.Publish = step.publish
slot_word_made word.Enter = step.enter
slot_word_made word.Destroy = step.destroy
slot_word_made word.Lost = step.lost
slot_word_made word.Abandon = step.abandon
slot_word_made word.Counts = step.counts
slot_word_made word.Timing = step.timing

-- what the words after it ask for, where the first word is one of these, or none of them
abbrev pub slot_word_step : List ℕ → Option SlotWord → List (List ℕ) → Option (Step Kind)
slot_word_step first (Some w) words = at_slot (slot_word_made w) words
slot_word_step first None words = lone_step_of first words
