-- Group and registry are those of the words, as their locks gave them.
use Rattle.std.proofs.Common.{rules, subst, sym}
use Rattle.lb_threads_core.proofs.Histories.{at_site}
use Rattle.lb_threads_core.specs.Registry.{IsRegistryOf}
use Rattle.lb_threads_group.specs.Group.{IsState}
use Rattle.lb_threads_group.proofs.group.SharedGroup.note_in_group.Goals as goal

pub note-requires-clause-group : goal.note-requires-clause-group
note-requires-clause-group g c =
    subst (λ s. IsState s.core c.core.result.now) (sym c.requires.own) (rw c.core.ensures c.requires.state)

pub note-requires-clause-registry : goal.note-requires-clause-registry
note-requires-clause-registry g c =
    subst (λ s. IsRegistryOf g.R.KeyRule.gives s.registry c.take_registry-cells.result.value) (sym c.requires.own)
    (at_site (search rules) c.take_registry-cells.ensures.registry)
