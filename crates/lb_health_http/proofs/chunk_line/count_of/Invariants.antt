use Rattle.std.proofs.Common.{◌≡◌, ℕ, ◌<◌, true, get_or}
use Rattle.lb_health_http.specs.ChunkLines.{class_has}
use Rattle.lb_health_http.proofs.chunk_line.count_of.Given as goal

abbrev pub invariant-loop-index : goal.invariant-loop-index
invariant-loop-index l = (k : ℕ) → k < l.index → class_has l.class (get_or l.text k 0) ≡ true
