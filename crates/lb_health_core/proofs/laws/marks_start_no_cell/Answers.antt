use Rattle.lb_health_core.proofs.FreshLemmas.{marks_start_none}
use Rattle.lb_health_core.proofs.laws.marks_start_no_cell.Goals as goal

pub returns : goal.returns
returns g c = λ key_of events r. (marks_start_none key_of events r.state.sets, r.state.fits)
