-- Each kind's walk begins as a walk of the kind.
use Rattle.lb_script.proofs.kinds.ChosenBackendSelection.start.Goals as goal

pub returns-in_ok-walk-in-Fnv-clause-begins : goal.returns-in_ok-walk-in-Fnv-clause-begins
returns-in_ok-walk-in-Fnv-clause-begins g c = rw c.in-Fnv.is c.in_ok-walk-in-Fnv.ensures.begins

pub returns-in_ok-walk-in-RoundRobin-clause-begins : goal.returns-in_ok-walk-in-RoundRobin-clause-begins
returns-in_ok-walk-in-RoundRobin-clause-begins g c =
    rw c.in-RoundRobin.is c.in_ok-walk-in-RoundRobin.ensures.begins

pub returns-in_ok-walk-in-Ketama-clause-begins : goal.returns-in_ok-walk-in-Ketama-clause-begins
returns-in_ok-walk-in-Ketama-clause-begins g c = rw c.in-Ketama.is c.in_ok-walk-in-Ketama.ensures.begins

pub returns-in_ok-walk-in-Least-clause-begins : goal.returns-in_ok-walk-in-Least-clause-begins
returns-in_ok-walk-in-Least-clause-begins g c = rw c.in-Least.is c.in_ok-walk-in-Least.ensures.begins

pub returns-in_ok-walk-in-Random-clause-begins : goal.returns-in_ok-walk-in-Random-clause-begins
returns-in_ok-walk-in-Random-clause-begins g c = rw c.in-Random.is c.in_ok-walk-in-Random.ensures.begins
