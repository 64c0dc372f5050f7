use Rattle.std.proofs.Common.{◌≡◌, ◌∙◌, ◌∷◌, ℕ, Some, refl, sym, ap, subst, rules}
use Rattle.std.specs.List.{All}
use Rattle.std.proofs.lemmas.List.Elements.{All-head, All-tail}
use Rattle.std.specs.Option.{option_map}
use Rattle.std.specs.Ordering.{nat_cmp}
use Rattle.lb_health_core.specs.declared.table.Cell.{Cell}
use Rattle.lb_health_core.specs.Internal.Row.{stored_health}
use Rattle.lb_health_core.specs.Starts.{value_at}
use Rattle.lb_health_core.proofs.stored.retell.Goals as goal

pub loop-cell-init : goal.loop-cell-init
loop-cell-init g c =
    let entries = c.args.cells.now.entries in
    record {
      told = c.begin.ensures (stored_health entries);
      left = subst (All (λ (e : ℕ × Cell g.row.K.Denot). value_at nat_cmp entries e.0 ≡ Some e.1))
          (sym (c.into_iter-cell-iterator.ensures.into_iter_gives ∙ c.iter-cell-items.ensures.rest)) c.iter-cell-items.ensures.found;
    }

pub loop-cell-preserved : goal.loop-cell-preserved
loop-cell-preserved g c =
    let entries = c.args.cells.now.entries in
    let P : ℕ × Cell g.row.K.Denot → Type 0 = λ e. value_at nat_cmp entries e.0 ≡ Some e.1 in
    let cell = c.in-Some-2.cell.now in
    let stored = c.in-Some-2.stored.now in
    let step : c.loop-cell.cell-iterator ≡ (cell, stored) ∷ c.next.new.self = search rules in
    let left : All P ((cell, stored) ∷ c.next.new.self) = subst (All P) step c.loop-cell.invariant.left in
    let found = All-head P (cell, stored) c.next.new.self left in
    record {
      told = c.set.ensures (stored_health entries) (stored_health entries) c.loop-cell.invariant.told (λ d other. refl)
          (ap (option_map (λ (x : Cell g.row.K.Denot). x.health.healthy)) found ∙ ap Some (sym c.ready.ensures));
      left = All-tail P (cell, stored) c.next.new.self left;
    }
