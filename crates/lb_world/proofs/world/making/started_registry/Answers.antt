-- Cells that start unhealthy are the registry's first event.
use Rattle.lb_world.proofs.Words.{[], key_by}
use Rattle.lb_world.proofs.world.making.started_registry.Goals as goal

pub returns : goal.returns
returns c = rw c.if-healthy.false (c.start_unhealthy.ensures.after (key_by c.args.rule) [] c.new_registry-registry.ensures)
