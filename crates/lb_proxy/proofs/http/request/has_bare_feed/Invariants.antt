use Rattle.std.proofs.Common.{◌≡◌, ℕ, ◌-◌, ◌<◌, get_or}
use Rattle.lb_proxy.proofs.http.request.has_bare_feed.Given as goal

abbrev pub invariant-loop-index : goal.invariant-loop-index
invariant-loop-index l =
    (k : ℕ) → k < l.index → get_or l.bytes k 0 ≡ 10 → (0 < k) × (get_or l.bytes (k - 1) 0 ≡ 13)
