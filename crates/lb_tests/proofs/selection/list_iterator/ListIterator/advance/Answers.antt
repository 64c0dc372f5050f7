-- A step before the end of the list.
use Rattle.std.proofs.Common.{◌<◌, length}
use Rattle.lb_tests.proofs.ListSteps.{list_step}
use Rattle.lb_tests.proofs.selection.list_iterator.ListIterator.advance.Goals as goal

pub returns-clause-step : goal.returns-clause-step
returns-clause-step c =
    let lt : c.args.self.now.at < length c.args.self.now.backends.items = rw c.as_slice.ensures.value at c.if-index-as_slice.false in
    list_step c.args.self.now.backends.items c.args.self.now.at lt
