-- The steps at a group as histories have them, with the number of the group.
use Rattle.std.specs.Prelude.{◌≡◌, ℕ, false, Some}
use Rattle.lb_world.specs.Answers.{has_refused}
use Rattle.lb_world.specs.Steps.{Step, update, ask, build, failbuild, lost, publish, abandon, destroy, enable, disable, cancel}
use Rattle.lb_world.specs.Steps.{counts, timing, load}
use Rattle.lb_world.specs.declared.group_step.GroupStep.{GroupStep}
use Rattle.lb_world.specs.declared.group_step.GroupStep.TheVariants as is

abbrev pub group_step_seen : {C : Type 0} → ℕ → GroupStep → Step C
group_step_seen g (is.Update now listings) = update g now listings.items
group_step_seen g (is.Ask s now) = ask g s now
group_step_seen g (is.Build s now) = build g s now
group_step_seen g (is.FailBuild s now) = failbuild g s now
group_step_seen g (is.Lost s) = lost g s
group_step_seen g (is.Publish s) = publish g s
group_step_seen g (is.Abandon s) = abandon g s
group_step_seen g (is.Destroy s) = destroy g s
group_step_seen g (is.Enable b) = enable g (Some b.now)
group_step_seen g (is.Disable b) = disable g (Some b.now)
group_step_seen g is.Cancel = cancel g
group_step_seen g (is.Counts s) = counts g s
group_step_seen g (is.Timing s) = timing g s
group_step_seen g (is.Load b amount) = load g (Some b.now) amount

-- no address of an update was refused
abbrev pub IsWhole : GroupStep → Type 0
IsWhole (is.Update now listings) = has_refused listings.items ≡ false
IsWhole local = Unit {0}
