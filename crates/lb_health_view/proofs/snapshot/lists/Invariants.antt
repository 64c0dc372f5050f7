use Rattle.std.proofs.Common.{◌≡◌, map, drop}
use Rattle.lb_health_view.specs.Snapshots.{snapshot_of, lists_in}
use Rattle.lb_health_view.proofs.snapshot.lists.Given as goal

abbrev pub invariant-loop-snapshot : goal.invariant-loop-snapshot
invariant-loop-snapshot l = lists_in l.backend (map snapshot_of (drop l.snapshot-index l.others)) ≡ lists_in l.backend
    (map snapshot_of l.others)
