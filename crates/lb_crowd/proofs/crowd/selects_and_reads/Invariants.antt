use Rattle.std.proofs.Common.{◌≡◌}
use Rattle.lb_crowd.proofs.crowd.selects_and_reads.Given as goal

abbrev pub invariant-loop-turn : goal.invariant-loop-turn
invariant-loop-turn g l = (l.pass.board ≡ g.G.ByPasses.board l.group) × (l.other.board ≡ g.G.ByPasses.board l.group)
