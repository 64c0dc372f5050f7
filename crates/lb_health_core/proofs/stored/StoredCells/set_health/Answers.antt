use Rattle.std.proofs.Common.{◌∙◌, Some, sym, ap}
use Rattle.std.specs.Option.{is_some}
use Rattle.lb_health_core.specs.declared.table.Cell.{Cell}
use Rattle.lb_health_core.specs.Internal.Row.{stored_health}
use Rattle.lb_health_core.proofs.RowLemmas.{others_stay, one_changed}
use Rattle.lb_health_core.proofs.stored.StoredCells.set_health.Goals as goal

pub invariant_of-self : goal.invariant_of-self
invariant_of-self g c =
    let before = c.self.inside.by_number.entries in
    let made : Cell g.row.K.Denot = record { key = c.in-Some.stored.now.key; health = c.args.health } in
    let after = (c.get_mut.follows.lender made).entries in
    let changed = ((c.get_mut.follows.holds made).3 (ap is_some (sym c.in-Some.ensures.value))).0 in
    c.set.ensures (stored_health before) (stored_health after) c.self.invariant
    (others_stay before after c.args.cell made changed) (one_changed before after c.args.cell made changed ∙ ap Some (sym c.ready.ensures))
