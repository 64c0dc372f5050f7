-- What the group under its lock says of a backend, by the registry under its own.
use Rattle.std.proofs.Common.{rules, subst, sym}
use Rattle.lb_threads_core.proofs.Histories.{at_site}
use Rattle.lb_threads_core.specs.Registry.{IsRegistryOf}
use Rattle.lb_threads_group.specs.Group.{IsState}
use Rattle.lb_threads_group.proofs.group.SharedGroup.ask.Goals as goal

pub note-requires-clause-group : goal.note-requires-clause-group
note-requires-clause-group g c =
    subst (λ s. IsState s.core c.core-group.result.now) (sym c.requires.found.0)
    (rw c.core-group.ensures (search rules, c.founded.ensures))

pub note-requires-clause-registry : goal.note-requires-clause-registry
note-requires-clause-registry g c =
    subst (λ s. IsRegistryOf g.R.KeyRule.gives s.registry c.take_registry-cells.result.value) (sym c.requires.found.0)
    (at_site (search rules) c.take_registry-cells.ensures.registry)

pub returns : goal.returns
returns g c = (
  c.take-held.result.value.core,
  (
    c.take_registry-cells.result.value,
    (
      (search rules, c.founded.ensures),
      (at_site (search rules) c.take_registry-cells.ensures.registry, rw c.core-group.ensures at c.ready-ready.ensures),
    ),
  ),
)
