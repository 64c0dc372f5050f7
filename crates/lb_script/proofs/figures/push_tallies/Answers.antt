use Rattle.std.proofs.Common.{codes, decimal}
use Rattle.std.proofs.lemmas.Result.{on_ok_weaker}
use Rattle.lb_script.proofs.FiguresLemmas.{four_parts}
use Rattle.lb_script.proofs.figures.push_tallies.Goals as goal

pub returns : goal.returns
returns c =
    let counts = c.args.counts.now in
    on_ok_weaker c.push_numbered-4.result
    (four_parts c.args.text.now.items c.push_numbered.new.text.items c.push_numbered-2.new.text.items c.push_numbered-3.new.text.items
    c.push_numbered-4.new.text.items
    (codes " published ") (decimal counts.published) (codes " coalesced ") (decimal counts.coalesced) (codes " superseded ")
    (decimal counts.superseded)
    (codes " failed ") (decimal counts.failed) c.in_ok-push_numbered.ensures c.in_ok-push_numbered-2.ensures
    c.in_ok-push_numbered-3.ensures)
    c.push_numbered-4.ensures
