use Rattle.std.proofs.Common.{◌≡◌, ◌++◌, ℕ, List, [], Option, None, IfSome, subst, sym, take, replicate, rules}
use Rattle.std.proofs.Math.Seq.{take-nil}
use Rattle.std.proofs.lemmas.List.Elements.{All-replicate}
use Rattle.lb_select_base.specs.Backends.{Member}
use Rattle.lb_health_view.specs.declared.cells.Hint.{Hint}
use Rattle.lb_health_view.specs.Internal.Hints.{IsHint, AreHints}
use Rattle.lb_health_view.proofs.cells.empty_places.Goals as goal

-- places that came after none
all_empty : (entries : List (Member × ℕ)) (n m : ℕ) (before : List (Option Hint)) → before ≡ []
    → AreHints entries (take n before ++ replicate m None)
all_empty entries n m before none =
    subst (λ (xs : List (Option Hint)). AreHints entries (take n xs ++ replicate m None)) (sym none)
    (subst (λ (xs : List (Option Hint)). AreHints entries (xs ++ replicate m None)) (sym (take-nil n))
    (All-replicate (λ o. IfSome o (IsHint entries)) m None tt))

pub returns-in-Ok : goal.returns-in-Ok
returns-in-Ok c = λ entries.
    let none : c.new-places.result.items ≡ [] = search rules in
    rw c.in-Ok.ensures.items (all_empty entries c.args.count _ c.new-places.result.items none)
