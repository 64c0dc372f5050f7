-- A slot that is there for one number is there for all.
use Rattle.lb_rebuild_core.specs.SlotsHistory as slots
use Rattle.lb_rebuild_core.specs.GroupHistory as group
use Rattle.std.proofs.lemmas.Grind.{common_steps}
use Rattle.lb_world.proofs.Words.{arith, newest-past, past_of}
use Rattle.lb_world.proofs.Entries.{same-flight}
use Rattle.lb_world.proofs.entry.Entry.numbers.Goals as goal

pub returns : goal.returns
returns g c =
    rw (← c.self.view_is)
    (λ made e s.
    let p = past_of c.args.slot (group.slot_events e) in
    let newest = c.newest.ensures made e s in
    let served = rw c.in_ok-served.was at (c.served.ensures made e s) in
    let flight = rw c.in_ok-flight.was at (c.flight.ensures made e s) in
    let waiting = rw c.in_ok-is_waiting.was at (c.is_waiting.ensures made e s) in
    let counts = rw c.in_ok-counts.was at (c.counts.ensures made e s) in
    grind (arith, common_steps, newest, served, flight, waiting, counts, newest-past c.args.slot, same-flight (slots.extra p)))
