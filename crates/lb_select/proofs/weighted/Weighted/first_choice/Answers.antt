use Rattle.lb_select.proofs.WeightLemmas.{first_at}
use Rattle.lb_select.proofs.weighted.Weighted.first_choice.Goals as goal

pub returns : goal.returns
returns g c = first_at _ _ _ c.requires (rw c.place_of.ensures at c.index_of.ensures.index) c.index_of.ensures.inside
