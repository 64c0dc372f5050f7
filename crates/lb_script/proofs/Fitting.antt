-- A walk that fits a selector of a kind is a walk of that kind.
use Rattle.std.specs.Prelude.{◌≡◌, List, refl}
use Rattle.lb_select_base.specs.Backends.{Member}
use Rattle.lb_select.specs.declared.weighted.WeightedWalk.{WeightedWalk}
use Rattle.lb_select.specs.declared.least.LeastWalk.{LeastWalk}
use Rattle.lb_select.specs.declared.ketama.RingWalk.{RingWalk}
use Rattle.lb_script.specs.declared.kinds.ChosenWalk.{ChosenWalk}
use Rattle.lb_script.specs.declared.kinds.ChosenWalk.TheVariants as lent
use Rattle.lb_script.specs.Lent.{weighted_fits, ring_fits, least_fits}

pub is_weighted : (w : ChosenWalk) → weighted_fits w → ((x : WeightedWalk) → w ≡ lent.Weighted x → ⊥) → ⊥
is_weighted (lent.Weighted w) fits other = other w refl
is_weighted (lent.Ketama w) fits other = fits
is_weighted (lent.Least w) fits other = fits

pub is_of_ring : (w : ChosenWalk) → ring_fits w → ((x : RingWalk) → w ≡ lent.Ketama x → ⊥) → ⊥
is_of_ring (lent.Weighted w) fits other = fits
is_of_ring (lent.Ketama w) fits other = other w refl
is_of_ring (lent.Least w) fits other = fits

pub is_least : (ms : List Member) (w : ChosenWalk) → least_fits ms w → ((x : LeastWalk) → w ≡ lent.Least x → ⊥) → ⊥
is_least ms (lent.Weighted w) fits other = fits
is_least ms (lent.Ketama w) fits other = fits
is_least ms (lent.Least w) fits other = other w refl
