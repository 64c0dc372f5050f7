-- What the group under its lock says of a backend, by the registry under its own.
use Rattle.std.proofs.Common.{rules}
use Rattle.lb_threads_core.proofs.Histories.{at_site}
use Rattle.lb_threads_group.proofs.group.SharedGroup.ask_ready.Goals as goal

pub returns : goal.returns
returns g c = (
  c.take-held.result.value.core,
  (
    c.take_registry-cells.result.value,
    (
      (search rules, c.founded.ensures),
      (at_site (search rules) c.take_registry-cells.ensures.registry, rw c.core-group.ensures at c.ready-ready.ensures),
    ),
  ),
)
