use Rattle.std.proofs.Common.{◌≡◌, ◌-◌, ◌≤◌, reverse, slice_range}
use Rattle.httparse.specs.Grammar.{skip_ows, trim_ows}
use Rattle.lb_proxy.proofs.http.field.trim.Given as goal

abbrev pub invariant-loop-start : goal.invariant-loop-start
invariant-loop-start l =
    (l.start ≤ l.end) × (skip_ows (slice_range l.value l.fn.start l.end) ≡ skip_ows (slice_range l.value l.start l.end))

abbrev pub decreases-loop-start : goal.decreases-loop-start
decreases-loop-start l = l.end - l.start

abbrev pub invariant-loop-end : goal.invariant-loop-end
invariant-loop-end l =
    (l.start ≤ l.end) × (l.end ≤ l.fn.end)
    × (trim_ows (slice_range l.value l.fn.start l.fn.end) ≡ reverse (skip_ows (reverse (slice_range l.value l.start l.end))))

abbrev pub decreases-loop-end : goal.decreases-loop-end
decreases-loop-end l = l.end - l.start
