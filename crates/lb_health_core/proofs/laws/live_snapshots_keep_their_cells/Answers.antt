use Rattle.lb_health_core.proofs.KeptLemmas.{snapshot_kept, held_kept}
use Rattle.lb_health_core.proofs.laws.live_snapshots_keep_their_cells.Goals as goal

pub returns-clause-held : goal.returns-clause-held
returns-clause-held c = snapshot_kept

pub returns-clause-kept : goal.returns-clause-kept
returns-clause-kept c = held_kept
