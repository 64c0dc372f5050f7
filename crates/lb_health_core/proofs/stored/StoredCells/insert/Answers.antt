use Rattle.std.proofs.Common.{◌∙◌, Some, sym, ap}
use Rattle.lb_health_core.specs.Internal.Row.{stored_health}
use Rattle.lb_health_core.proofs.RowLemmas.{others_stay, one_changed}
use Rattle.lb_health_core.proofs.stored.StoredCells.insert.Goals as goal

pub invariant_of-self-else-len : goal.invariant_of-self-else-len
invariant_of-self-else-len g c =
    let before = c.self.inside.by_number.entries in
    let after = c.insert.new.self.entries in
    let changed = c.in_ok-insert.ensures.updates.0 in
    c.set.ensures (stored_health before) (stored_health after) c.self.invariant
    (others_stay before after c.args.cell c.args.stored changed)
    (one_changed before after c.args.cell c.args.stored changed ∙ ap Some (sym c.ready-healthy.ensures))
