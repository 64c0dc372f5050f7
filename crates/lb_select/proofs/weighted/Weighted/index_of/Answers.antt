use Rattle.lb_select.proofs.Summing.{never_falls}
use Rattle.lb_select.proofs.weighted.Weighted.index_of.Goals as goal

pub is_at-requires : goal.is_at-requires
is_at-requires g c = never_falls _ _ c.self.invariant.up_to

pub is_at-requires-2 : goal.is_at-requires-2
is_at-requires-2 g c = never_falls _ _ c.self.invariant.up_to
