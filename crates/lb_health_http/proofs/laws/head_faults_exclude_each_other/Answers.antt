use Rattle.lb_health_http.proofs.FaultLemmas.{bad_alone, large_alone, ended_alone, bad_at, large_at}
use Rattle.lb_health_http.proofs.laws.head_faults_exclude_each_other.Goals as goal

pub returns-clause-bad : goal.returns-clause-bad
returns-clause-bad c = bad_alone

pub returns-clause-large : goal.returns-clause-large
returns-clause-large c = large_alone

pub returns-clause-ended : goal.returns-clause-ended
returns-clause-ended c = ended_alone

pub returns-clause-bad_at : goal.returns-clause-bad_at
returns-clause-bad_at c = bad_at

pub returns-clause-large_at : goal.returns-clause-large_at
returns-clause-large_at c = large_at
