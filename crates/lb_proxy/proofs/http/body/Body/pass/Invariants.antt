use Rattle.std.proofs.Common.{◌↔◌, ℕ, ◌-◌, ◌≤◌, List, ◌++◌, length, take}
use Rattle.lb_proxy.specs.Http.Body.{Remains}
use Rattle.lb_proxy.proofs.http.body.Body.pass.Given as goal

abbrev pub invariant-loop-passed : goal.invariant-loop-passed
invariant-loop-passed l = record {
  within : l.passed ≤ length l.bytes;
  follows : (text : List ℕ) → Remains l.self.place text ↔ Remains l.initial.self.place (take l.passed l.bytes ++ text);
}

abbrev pub decreases-loop-passed : goal.decreases-loop-passed
decreases-loop-passed l = length l.bytes - l.passed
