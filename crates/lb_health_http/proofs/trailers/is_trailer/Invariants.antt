use Rattle.std.proofs.Common.{ℕ, ◌≢◌, ◌<◌, slice_index}
use Rattle.lb_health_http.proofs.trailers.is_trailer.Given as goal

abbrev pub invariant-loop-byte : goal.invariant-loop-byte
invariant-loop-byte l = (k : ℕ) → k < l.byte-index → (slice_index l.line k ≢ 13) × (slice_index l.line k ≢ 10)
