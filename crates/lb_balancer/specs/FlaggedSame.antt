-- What cell and flag a backend has, one of its identity has: the law of the words that say it.
use Rattle.std.proofs.Common.{◌≡◌, ℕ, Bool, true}
use Rattle.lb_select_base.specs.Backends.{Member, same_member}
use Rattle.lb_health_view.specs.ViewEvents.{generation_after}
use Rattle.lb_threads_core.proofs.SameReadiness.{cell-same}
use Rattle.lb_balancer.specs.History.{BalancerValue, FlaggedIn}

pub flagged-same : {D C R : Type 0} (b : BalancerValue D C R) (n : ℕ) (k m : Member) (c : ℕ) (enabled : Bool) → same_member k m ≡ true
    → FlaggedIn b n m c enabled → FlaggedIn b n k c enabled
flagged-same b n k m c enabled same (s, (was, (served, has))) = (
  s,
  (
    was,
    (
      served,
      λ views view. cell-same k m same views c enabled (generation_after views) (has views view),
    ),
  ),
)
