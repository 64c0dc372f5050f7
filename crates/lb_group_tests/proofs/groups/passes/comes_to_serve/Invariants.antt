use Rattle.std.proofs.Common.{◌≡◌}
use Rattle.lb_group_tests.proofs.groups.passes.comes_to_serve.Given as goal

abbrev pub invariant-loop : goal.invariant-loop
invariant-loop g l = l.pass.board ≡ g.H.ByPasses.board l.group
