use Rattle.lb_select.proofs.Indexing.{left_by}
use Rattle.lb_select.proofs.index.Index.first_from.Goals as goal

pub overflow_sub-end : goal.overflow_sub-end
overflow_sub-end g c =
    (left_by c.args.entries.now c.args.self.now.shift c.args.place c.bounds-first.result.0 c.bounds-first.result.1
    c.args.self.now.starts.items c.requires.starts c.bounds-first.ensures.known c.bounds-first.ensures.unknown
    c.bounds-first.ensures.ends c.bounds-first.ensures.endless).0

pub first_of_few-requires-clause-left : goal.first_of_few-requires-clause-left
first_of_few-requires-clause-left g c =
    (left_by c.args.entries.now c.args.self.now.shift c.args.place c.bounds-first.result.0 c.bounds-first.result.1
    c.args.self.now.starts.items c.requires.starts c.bounds-first.ensures.known c.bounds-first.ensures.unknown
    c.bounds-first.ensures.ends c.bounds-first.ensures.endless).1
