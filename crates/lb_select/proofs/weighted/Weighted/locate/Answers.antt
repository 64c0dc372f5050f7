use Rattle.lb_select.proofs.Summing.{never_falls}
use Rattle.lb_select.proofs.weighted.Weighted.locate.Goals as goal

pub index_of_place-index-requires-clause-rising : goal.index_of_place-index-requires-clause-rising
index_of_place-index-requires-clause-rising g c = rw c.reader-reader.ensures.sums (never_falls _ _ c.self.invariant.up_to)
