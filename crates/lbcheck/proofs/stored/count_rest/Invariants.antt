use Rattle.std.proofs.Common.{◌≡◌, ◌-◌, true}
use Rattle.lb_stream.specs.Counted.{inner_of, has_failed}
use Rattle.lb_stream.specs.Stream.{OnBytes, Takes}
use Rattle.lbcheck.proofs.stored.count_rest.Given as goal

abbrev pub invariant-loop-count : goal.invariant-loop-count
invariant-loop-count g l =
    OnBytes (g.R.Read.remaining (inner_of l.fn.reader)) (g.R.Read.remaining (inner_of l.reader)) (Takes l.count)
    × (has_failed l.fn.reader ≡ true → has_failed l.reader ≡ true)

abbrev pub decreases-loop-count : goal.decreases-loop-count
decreases-loop-count g l = 18446744073709551615 - l.count
