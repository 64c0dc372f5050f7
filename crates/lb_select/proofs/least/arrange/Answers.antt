use Rattle.std.proofs.Common.{rules}
use Rattle.std.proofs.lemmas.List.Sorted.{answers_always}
use Rattle.lb_select.proofs.LeastOrder.{reading_order}
use Rattle.lb_select.proofs.least.arrange.Goals as goal

pub returns-clause-sorted : goal.returns-clause-sorted
returns-clause-sorted c = c.sort_unstable_by.ensures.sorted _ reading_order (answers_always _ _ _ (λ f a r g h. search rules))
