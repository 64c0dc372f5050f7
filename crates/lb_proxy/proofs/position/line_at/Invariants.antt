use Rattle.std.proofs.Common.{◌≡◌, ◌≤◌, ◌+◌}
use Rattle.lb_proxy.specs.Position.{line_at}
use Rattle.lb_proxy.proofs.position.line_at.Given as goal

abbrev pub invariant-loop-earlier : goal.invariant-loop-earlier
invariant-loop-earlier l = (l.line ≡ line_at l.fn.text l.earlier) × (l.line ≤ l.earlier + 1)
