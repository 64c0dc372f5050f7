-- What a row knows of cells.
use Rattle.std.specs.Prelude.{◌≡◌, ℕ, ◌+◌, Bool, List, Option, Some}
use Rattle.std.specs.List.{slice_get}
use Rattle.std.specs.Option.{option_map}
use Rattle.std.specs.Ordering.{nat_cmp}
use Rattle.lb_health_core.specs.declared.row.Row.{Row}
use Rattle.lb_health_core.specs.declared.table.Cell.{Cell}
use Rattle.lb_health_core.specs.Starts.{value_at}

-- what these places say of the cells from `first` on is what `f` has of them
abbrev pub TellsFrom : (ℕ → Option Bool) → ℕ → List (Option Bool) → Type 0
TellsFrom f first places = (i : ℕ) (healthy : Bool) → slice_get places i ≡ Some (Some healthy) → f (first + i) ≡ Some healthy

abbrev pub Tells : (ℕ → Option Bool) → Row → Type 0
Tells f r = TellsFrom f r.first r.told.items

-- whether the cell of this number is healthy, where it is stored
abbrev pub stored_health : {K : Type 0} → List (ℕ × Cell K) → ℕ → Option Bool
stored_health entries cell = option_map (λ x. x.health.healthy) (value_at nat_cmp entries cell)
