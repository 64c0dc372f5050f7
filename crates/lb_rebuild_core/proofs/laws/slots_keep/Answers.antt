-- By cases on what the slot contains.
use Rattle.lb_rebuild_core.proofs.SlotsSteps.{permits-fit}
use Rattle.lb_rebuild_core.proofs.Tasks.{flight-fits}
use Rattle.lb_rebuild_core.proofs.laws.slots_keep.Goals as goal

pub returns-clause-flights : goal.returns-clause-flights
returns-clause-flights g c = flight-fits

pub returns-clause-permits : goal.returns-clause-permits
returns-clause-permits g c = permits-fit
