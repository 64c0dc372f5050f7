-- What the reader selects by the group's words, it selects by some words.
use Rattle.std.specs.Fn.{FnReturnsAt}
use Rattle.lb_threads_group.proofs.Entries.{selects_by_any}
use Rattle.lb_threads_group.proofs.group.SharedGroup.select_in.Goals as goal

pub returns : goal.returns
returns g c =
    selects_by_any (λ b r. FnReturnsAt g.F.Fn c.args.accept.now b r) c.args.max_iterations _ _ _ _ c.select.result c.select.ensures
