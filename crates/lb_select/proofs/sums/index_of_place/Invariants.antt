use Rattle.std.proofs.Common.{◌≡◌, ◌-◌}
use Rattle.lb_select.proofs.Halves.{Halved}
use Rattle.lb_select.proofs.sums.index_of_place.Given as goal

-- the sums stay, and the first one above the place is among those that are left
abbrev pub invariant-loop-size : goal.invariant-loop-size
invariant-loop-size g l =
    (g.R.ReadSums.sums l.reader ≡ g.R.ReadSums.sums l.fn.reader)
    × Halved (g.R.ReadSums.sums l.fn.reader) l.count l.place l.start l.size (g.R.ReadSums.reads l.fn.reader) (g.R.ReadSums.reads l.reader)

abbrev pub decreases-loop-size : goal.decreases-loop-size
decreases-loop-size g l = l.size - 1
