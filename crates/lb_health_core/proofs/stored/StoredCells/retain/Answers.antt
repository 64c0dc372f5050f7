use Rattle.std.proofs.Common.{◌∙◌, ap, ℕ, Bool, map, filter, rules}
use Rattle.std.proofs.lemmas.Map.Made.{filter_same_pairs}
use Rattle.lb_health_core.specs.declared.table.Cell.{Cell}
use Rattle.lb_health_core.specs.Internal.Changing.{keeps_cell}
use Rattle.lb_health_core.specs.Table.{hold_of}
use Rattle.lb_health_core.proofs.stored.StoredCells.retain.Goals as goal

pub returns-clause-left : goal.returns-clause-left
returns-clause-left g c =
    let kept : ℕ × Cell g.row.K.Denot → Bool = λ e. keeps_cell g.K.Ord.cmp c.args.numbering.now.by_key.entries
    (map hold_of c.args.held.now) e.0 e.1.key in
    filter_same_pairs _ kept _ (λ k v b w f' t. search rules) _ _ c.retain.ensures.filtered ∙ ap (filter kept) c.self.view_is
