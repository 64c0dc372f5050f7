-- The step that a line's step is: a selection borrows its key, and has no random words.
use Rattle.std.specs.Prelude.{[]}
use Rattle.lb_script.specs.declared.kinds.Kind.{Kind}
use Rattle.lb_script.specs.declared.selection.SelectionLine.{SelectionLine}
use Rattle.lb_script.specs.declared.parse.LineStep.{LineStep}
use Rattle.lb_script.specs.declared.parse.LineStep.TheVariants.{Select, Other}
use Rattle.lb_world.specs.Steps.{Step, step_seen}
use Rattle.lb_world.specs.Steps as step

abbrev pub selection_seen : SelectionLine → Step Kind
selection_seen s = step.select s.group s.slot s.key.now s.limit []

abbrev pub line_step_seen : LineStep → Step Kind
line_step_seen (Select s) = selection_seen s
line_step_seen (Other st) = step_seen st
