use Rattle.lb_select.proofs.UniqueTurns.{turns_are_one_walk}
use Rattle.lb_select.proofs.unique_laws.unique_selection_law.Goals as goal

pub returns : goal.returns
returns g c = λ s key. turns_are_one_walk _ _ (λ i. g.met.S.BackendSelection.rest_starts i.selector i.walk) _
