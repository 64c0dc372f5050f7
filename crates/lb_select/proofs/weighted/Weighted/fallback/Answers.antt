use Rattle.std.proofs.Common.{◌<◌, refl}
use Rattle.lb_select.specs.Weights.{total_weight}
use Rattle.lb_select.proofs.WeightLemmas.{fallback_at}
use Rattle.lb_select.proofs.weighted.Weighted.fallback.Goals as goal

pub returns-clause-member : goal.returns-clause-member
returns-clause-member g c =
    let weighs : 0 < total_weight c.self.inside.backends.items = rw c.self.view_is c.requires in
    rw (c.as_slice-list.ensures.value, ← c.self.view_is) (fallback_at _ _ _ c.self.invariant.ordered weighs refl)
