use Rattle.lb_stream.proofs.LinesLemmas.{feed_found, feed_missing}
use Rattle.lb_stream.proofs.lines.feed_place.Goals as goal

pub returns-in-Some-clause-place : goal.returns-in-Some-clause-place
returns-in-Some-clause-place c = feed_found c.args.bytes.now c.in-Some.place c.in-Some.ensures

pub returns-in-None-clause-place : goal.returns-in-None-clause-place
returns-in-None-clause-place c = feed_missing c.args.bytes.now c.in-None.ensures
