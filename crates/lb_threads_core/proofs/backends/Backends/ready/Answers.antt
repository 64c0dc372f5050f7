-- What the view under its lock answers, by the registry under its own.
use Rattle.std.proofs.Common.{rules}
use Rattle.lb_threads_core.proofs.Histories.{at_site}
use Rattle.lb_threads_core.proofs.backends.Backends.ready.Goals as goal

pub returns : goal.returns
returns g c = (
  c.take-held.result.value,
  (
    (c.take-held.ensures.fact.0, search rules),
    (c.take-cells.result.value, (at_site (search rules) c.take-cells.ensures.registry, c.ready-ready.ensures)),
  ),
)
