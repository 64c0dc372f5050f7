-- What holds of schedules over every list of moments.
use Rattle.std.specs.Prelude.{◌≡◌, ◌≢◌, ℕ, true, List, [], ◌∷◌, Option, None}
use Rattle.lb_background.specs.Schedule.{ScheduleValue, schedule_after, update_finished, check_finished}
use Rattle.lb_background.specs.declared.event.Action.TheVariants as to
use Rattle.lb_background.specs.Services.{ServicePlan, IsServiceRun}
use Rattle.lb_background.specs.Turns.{Plan, is_within}
use Rattle.lb_background.specs.History.{Heard, IsRun, was_shut, last, target, HasUpdated}

-- one task or the other, done in a turn of a base
pub data Done : Type 0 where
  update : ℕ → Done
  check : ℕ → Done

abbrev pub done : Done → ScheduleValue → ScheduleValue
done (update base) s = update_finished s base
done (check base) s = check_finished s base

-- the schedule after all that was done, the last one first
abbrev pub all_done : List Done → ScheduleValue → ScheduleValue
all_done [] s = s
all_done (d ∷ ds) s = done d (all_done ds s)

-- the bases of the updates, and of the checks
abbrev pub updates : List Done → List ℕ
updates [] = []
updates (update base ∷ ds) = base ∷ updates ds
updates (check base ∷ ds) = updates ds

abbrev pub checks : List Done → List ℕ
checks [] = []
checks (update base ∷ ds) = checks ds
checks (check base ∷ ds) = base ∷ checks ds

abbrev pub FinishesGiveNext : Type 0
FinishesGiveNext =
    (u c : Option (Option ℕ)) (made : ℕ) (ds : List Done)
    → all_done ds (schedule_after u c made [] []) ≡ schedule_after u c made (updates ds) (checks ds)

-- a run that was shut down answers `Return` from then on
abbrev pub ShutRunsReturn : Type 0
ShutRunsReturn = (p : Plan) (h : List Heard) → IsRun p h → was_shut h ≡ true → last h ≡ to.Return

-- a run is never ready before an update was answered
abbrev pub ReadyAfterUpdate : Type 0
ReadyAfterUpdate = (p : Plan) (h : List Heard) → IsRun p h → last h ≡ to.Ready → HasUpdated h

-- a `Ready` of a group that doesn't repeat the last answer comes only where the least generation that a slot serves isn't below that
-- of the last update that succeeded
abbrev pub ReadyWhereServed : Type 0
ReadyWhereServed =
    (p : Plan) (x : Heard) (h : List Heard) → p.of_group ≡ true → IsRun p (x ∷ h) → x.action ≡ to.Ready → last h ≢ to.Ready
    → is_within (target (x ∷ h)) x.given ≡ true

-- a service that was shut down answers `Return` from then on
abbrev pub ShutServicesReturn : Type 0
ShutServicesReturn = (p : ServicePlan) (h : List Heard) → IsServiceRun p h → was_shut h ≡ true → last h ≡ to.Return

-- a service without a check is never ready
abbrev pub NoReadyWithoutCheck : Type 0
NoReadyWithoutCheck = (p : ServicePlan) (h : List Heard) → p.check ≡ None → IsServiceRun p h → last h ≢ to.Ready
