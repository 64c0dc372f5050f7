-- Each kind's step is a step of the walk that it is a case of.
use Rattle.lb_script.proofs.Fitting.{is_weighted, is_of_ring, is_least}
use Rattle.lb_script.proofs.kinds.ChosenBackendSelection.step.Goals as goal
use Rattle.lb_script.proofs.kinds.ChosenBackendSelection.step.Goals.{in-Fnv-Weighted, in-RoundRobin-Weighted, in-Ketama-Ketama}
use Rattle.lb_script.proofs.kinds.ChosenBackendSelection.step.Goals.{in-Least-Least, in-Random-Weighted, in_default}
use Rattle.lb_script.proofs.kinds.ChosenBackendSelection.step.Goals.{in_default-via-in-Fnv+in_default}
use Rattle.lb_script.proofs.kinds.ChosenBackendSelection.step.Goals.{in_default-via-in-RoundRobin+in_default}
use Rattle.lb_script.proofs.kinds.ChosenBackendSelection.step.Goals.{in_default-via-in-Ketama+in_default}
use Rattle.lb_script.proofs.kinds.ChosenBackendSelection.step.Goals.{in_default-via-in-Least+in_default}
use Rattle.lb_script.proofs.kinds.ChosenBackendSelection.step.Goals.{in_default-via-in-Random+in_default}

pub returns-clause-step : goal.returns-clause-step
returns-clause-step g c = elim c.match-self.branch [
  | in-Fnv-Weighted w ↦ rw (w.in-Fnv-Weighted.is-0, w.in-Fnv-Weighted.is-1, w.words-is, w.walk-is, w.result-is)
      w.step.ensures.step
  | in-RoundRobin-Weighted w ↦ rw (w.in-RoundRobin-Weighted.is-0, w.in-RoundRobin-Weighted.is-1, w.words-is, w.walk-is, w.result-is)
      w.step-in-RoundRobin-Weighted.ensures.step
  | in-Ketama-Ketama w ↦ rw (w.in-Ketama-Ketama.is-0, w.in-Ketama-Ketama.is-1, w.words-is, w.walk-is, w.result-is)
      w.step-in-Ketama-Ketama.ensures.step
  | in-Least-Least w ↦ rw (w.in-Least-Least.is-0, w.in-Least-Least.is-1, w.words-is, w.walk-is, w.result-is)
      w.step-in-Least-Least.ensures.step
  | in-Random-Weighted w ↦ rw (w.in-Random-Weighted.is-0, w.in-Random-Weighted.is-1, w.words-is, w.walk-is, w.result-is)
      w.step-in-Random-Weighted.ensures.step
  | in_default w ↦ elim w.in_default.branch [
    | in_default-via-in-Fnv+in_default v ↦ absurd (is_weighted _ (rw v.in_default.is-0 at c.requires) v.in_default.not-Weighted-1)
    | in_default-via-in-RoundRobin+in_default v ↦ absurd (is_weighted _ (rw v.in_default.is-0 at c.requires) v.in_default.not-Weighted-1)
    | in_default-via-in-Ketama+in_default v ↦ absurd (is_of_ring _ (rw v.in_default.is-0 at c.requires) v.in_default.not-Ketama-1)
    | in_default-via-in-Least+in_default v ↦ absurd (is_least _ _ (rw v.in_default.is-0 at c.requires) v.in_default.not-Least-1)
    | in_default-via-in-Random+in_default v ↦ absurd (is_weighted _ (rw v.in_default.is-0 at c.requires) v.in_default.not-Weighted-1)
  ]
]
