-- Lemmas on hints of cells.
use Rattle.std.proofs.Common.{◌≡◌, ℕ, List, Option, Some, None, IfSome, subst, sym, ap}
use Rattle.std.specs.List.{slice_get}
use Rattle.std.proofs.lemmas.List.Elements.{All-get_or}
use Rattle.std.proofs.lemmas.Option.{slice_get_within, get_or_from_slice_get}
use Rattle.lb_select_base.specs.AddressText.{bare_member}
use Rattle.lb_select_base.specs.Backends.{Address, Member, identity_of}
use Rattle.lb_health_view.specs.declared.cells.Hint.{Hint}
use Rattle.lb_health_view.specs.Internal.Hints.{IsHint, AreHints}
use Rattle.lb_health_view.specs.Snapshots.{value_at}

-- the hint at a place
pub hint_at : (entries : List (Member × ℕ)) (hints : List (Option Hint)) (i : ℕ) (h : Hint) → AreHints entries hints
    → slice_get hints i ≡ Some (Some h) → IsHint entries h
hint_at entries hints i h all is =
    subst (λ (o : Option Hint). IfSome o (IsHint entries)) (get_or_from_slice_get hints i (Some h) None is)
    (All-get_or (λ o. IfSome o (IsHint entries)) hints i None (slice_get_within hints i (Some h) is) all)

-- what a backend's identity finds, the backend finds
pub found_by_identity : (entries : List (Member × ℕ)) (b : Member) (a : Address) (w : ℕ) → (a, w) ≡ identity_of b
    → value_at entries b ≡ value_at entries (bare_member w a)
found_by_identity entries b a w is = ap (λ (i : Address × ℕ). value_at entries (bare_member i.1 i.0)) (sym is)
