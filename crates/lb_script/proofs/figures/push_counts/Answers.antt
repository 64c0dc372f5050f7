use Rattle.std.proofs.Common.{codes, decimal}
use Rattle.std.proofs.lemmas.Result.{on_ok_weaker}
use Rattle.lb_script.specs.Texts.{flight_text, waiting_text, tallies_text}
use Rattle.lb_script.proofs.FiguresLemmas.{five_parts}
use Rattle.lb_script.proofs.figures.push_counts.Goals as goal

pub returns : goal.returns
returns c =
    let slot = c.args.slot.now in
    on_ok_weaker c.push_tallies.result
    (five_parts c.args.text.now.items c.push_numbered.new.text.items c.push_numbered-2.new.text.items c.push_flight.new.text.items
    c.push_flag.new.text.items
    c.push_tallies.new.text.items (codes "counts newest ") (decimal slot.newest) (codes " served ") (decimal slot.served) (codes " flight ")
    (flight_text slot.flight) (waiting_text slot.waiting) (tallies_text slot.counts) c.in_ok-push_numbered.ensures
    c.in_ok-push_numbered-2.ensures
    c.in_ok-push_flight.ensures c.in_ok-push_flag.ensures)
    c.push_tallies.ensures
