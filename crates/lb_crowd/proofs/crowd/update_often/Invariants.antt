use Rattle.std.proofs.Common.{◌≡◌}
use Rattle.lb_crowd.proofs.crowd.update_often.Given as goal

abbrev pub invariant-loop-time : goal.invariant-loop-time
invariant-loop-time g l = l.pass.board ≡ g.G.ByPasses.board l.group
