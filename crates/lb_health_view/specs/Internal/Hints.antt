-- Hints of the cells of backends at IPv4 addresses.
use Rattle.std.specs.Prelude.{◌≡◌, ℕ, List, Option, Some, IfSome}
use Rattle.std.specs.List.{All}
use Rattle.std.specs.Map.{lookup}
use Rattle.lb_select_base.specs.AddressText.{bare_member}
use Rattle.lb_select_base.specs.Backends.{Member, ipv4, same_member}
use Rattle.lb_health_view.specs.declared.cells.Hint.{Hint}

-- a hint says the cell that these entries have for its backend
abbrev pub IsHint : List (Member × ℕ) → Hint → Type 0
IsHint entries h = lookup (same_member (bare_member h.weight (ipv4 h.octets h.port))) entries ≡ Some h.cell

-- each of these places is empty, or has such a hint
abbrev pub AreHints : List (Member × ℕ) → List (Option Hint) → Type 0
AreHints entries hints = All (λ o. IfSome o (IsHint entries)) hints
