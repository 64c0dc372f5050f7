-- The run has a history, which the port was driven by, and the next event came of its last answer.
use Rattle.std.proofs.Common.{◌≡◌, List}
use Rattle.lb_background.specs.History.{Heard}
use Rattle.lb_background.specs.Driven.{Acts, ActsUnlessShut, Driven, Reads, Told}
use Rattle.lb_background.proofs.drive.drive.Given as goal

abbrev pub invariant-loop : goal.invariant-loop
invariant-loop g l =
    let m = g.M.Machine in
    let p = g.P.RunPort in
    let reads = Reads p.moments p.readings in
    let does = ActsUnlessShut p.looks (Acts p.updates p.checks p.tells p.waits) in
    (h : List Heard) × m.is_after l.run h × (m.plan l.run ≡ m.plan l.fn.run) × (a : g.row.P.Denot)
    × Driven reads does l.fn.port h a × Told reads does a h l.event l.port
