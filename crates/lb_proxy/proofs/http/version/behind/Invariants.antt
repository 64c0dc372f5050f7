use Rattle.std.proofs.Common.{◌≡◌, drop}
use Rattle.lb_proxy.specs.Http.Refusals.{behind}
use Rattle.lb_proxy.proofs.http.version.behind.Given as goal

abbrev pub invariant-loop-index : goal.invariant-loop-index
invariant-loop-index l = behind l.class l.bytes ≡ behind l.class (drop l.index l.bytes)
