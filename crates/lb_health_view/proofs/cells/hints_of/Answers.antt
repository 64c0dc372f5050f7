use Rattle.std.proofs.Common.{◌≡◌, ◌∙◌, ◌∷◌, ℕ, Some, sym, subst, rules}
use Rattle.std.specs.List.{All}
use Rattle.std.proofs.lemmas.List.Elements.{All-head, All-tail}
use Rattle.lb_select_base.specs.Backends.{Member}
use Rattle.lb_health_view.specs.Snapshots.{value_at}
use Rattle.lb_health_view.proofs.cells.hints_of.Goals as goal

pub loop-backend-init : goal.loop-backend-init
loop-backend-init c =
    let entries = c.args.by_backend.now.entries in
    record {
      hints = c.empty_places-hints.ensures entries;
      left = subst (All (λ (e : Member × ℕ). value_at entries e.0 ≡ Some e.1))
          (sym (c.into_iter-backend-iterator.ensures.into_iter_gives ∙ c.iter-backend-items.ensures.rest))
          c.iter-backend-items.ensures.found;
    }

pub loop-backend-preserved : goal.loop-backend-preserved
loop-backend-preserved c =
    let entries = c.args.by_backend.now.entries in
    let P : Member × ℕ → Type 0 = λ e. value_at entries e.0 ≡ Some e.1 in
    let b = c.in-Some.backend.now in
    let cell = c.in-Some.cell.now in
    let step : c.loop-backend.backend-iterator ≡ (b, cell) ∷ c.next.new.self = search rules in
    let left : All P ((b, cell) ∷ c.next.new.self) = subst (All P) step c.loop-backend.invariant.left in
    record {
      hints = c.note.ensures entries c.loop-backend.invariant.hints (All-head P (b, cell) c.next.new.self left);
      left = All-tail P (b, cell) c.next.new.self left;
    }
