-- The step is that of the list, and nothing is drawn.
use Rattle.std.proofs.Common.{refl, []}
use Rattle.lb_tests.proofs.selection.list_iterator.ListIteratorBackendIter.next.Goals as goal

pub returns : goal.returns
returns g c = (
  (refl, (λ n. tt), ([], refl, rw (c.get.ensures, c.advance-index.ensures.backends) c.advance-index.ensures.step)),
  record { after = tt },
)
