-- One cause more of those that are left.
use Rattle.std.proofs.Common.{[], arith}
use Rattle.lb_select_base.proofs.LeastCauses.{at_end, one_more}
use Rattle.lb_select_base.proofs.causes.least_refusal.Goals as goal

pub returns : goal.returns
returns g c = at_end (g.S.BackendSelection.refusal []) c.args.configs.now c.loop-config.config-index _ _
    (omega arith) c.loop-config.invariant

pub loop-config-preserved : goal.loop-config-preserved
loop-config-preserved g c =
    let empty = c.new-empty.ensures.empty in
    rw c.earlier-found.ensures
    (one_more (g.S.BackendSelection.refusal []) c.args.configs.now c.loop-config.config-index c.config-item.result _ _ _
    (omega arith) c.config-item.is
    (rw empty at c.refusal_over.ensures)
    c.loop-config.invariant)
