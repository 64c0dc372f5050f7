-- The registry has a view more, or is as before; a new group has a slot for each configuration.
use Rattle.std.proofs.Common.{◌∙◌}
use Rattle.lb_health_core.proofs.StateLemmas.{if_ok}
use Rattle.lb_rebuild_core.specs.GroupStates.{GroupValue}
use Rattle.lb_threads_core.proofs.Histories.{later, registered_later}
use Rattle.lb_threads_core.proofs.Registrations.{made-under}
use Rattle.lb_balancer_group.proofs.FirstSlots.{new_group, slots_of_new}
use Rattle.lb_balancer_group.proofs.making.make.Goals as goal

pub put_registry-requires-clause-registry : goal.put_registry-requires-clause-registry
put_registry-requires-clause-registry g c =
    let is = c.new-made.ensures.made in
    later c.take_registry-cells.ensures.registry (registered_later c.new-made.result is.registry is.err)

pub returns-clause-slots : goal.returns-clause-slots
returns-clause-slots g c = if_ok c.new-made.result slots_of_new c.new-made.ensures.group

pub returns-clause-stands : goal.returns-clause-stands
returns-clause-stands g c = if_ok c.new-made.result new_group c.new-made.ensures.group

pub returns-clause-gate : goal.returns-clause-gate
returns-clause-gate g c = if_ok c.new-made.result (λ v is. is.gate ∙ c.take_gate-held.ensures.gate) c.new-made.ensures.group

pub returns-clause-site : goal.returns-clause-site
returns-clause-site g c = if_ok c.new-made.result (λ v is. is.site ∙ c.take_registry-cells.ensures.one) c.new-made.ensures.group

pub returns-clause-view : goal.returns-clause-view
returns-clause-view g c =
    made-under c.new-made.result (λ (v : GroupValue g.row.S-Config.Denot). v.view.id) c.take_registry-cells.ensures.registry
    c.new-made.ensures.made
