-- Why a view gets no other membership, memory apart: the cause that is found without taking memory.
use Rattle.std.specs.Prelude.{◌≡◌, ◌⊎◌, ◌+◌, ◌^◌, ◌==◌, ℕ, List, ◌∷◌, Option, Some, None, if◌then◌else◌, nat_le, not}
use Rattle.lb_select_base.specs.Backends.{Member}
use Rattle.lb_select_base.specs.declared.refusal.Refusal.{Refusal}
use Rattle.lb_select_base.specs.declared.refusal.Refusal.TheVariants.{GenerationsExhausted, NoSuch, NumbersExhausted, OutOfMemory}
use Rattle.lb_health_core.specs.RegistryEvents.{Event, Applied, Updated, cells_given, has_view, views_after}
use Rattle.lb_health_view.specs.ViewEvents.{ViewEvent, generation_after}

-- what a registry may refuse a membership for: memory, the want of numbers, or that it has no such view
abbrev pub IsRegistryRefusal : Refusal → Type 0
IsRegistryRefusal r = (r ≡ OutOfMemory) ⊎ ((r ≡ NumbersExhausted) ⊎ (r ≡ NoSuch))

-- Why view and registry refuse another membership, memory apart: the generations are exhausted, the registry has no such view, or no number
-- is left for a cell.
abbrev pub view_cause : (Member → Member) → ℕ → List Member → List Event → List ViewEvent → Option Refusal
view_cause key_of id members events views =
    if generation_after views + 1 == 2 ^ 64 then Some GenerationsExhausted
    else if not (has_view id (views_after events)) then Some NoSuch
    else if nat_le (2 ^ 64) (cells_given key_of (Updated id members ∷ Applied ∷ events)) then Some NumbersExhausted
    else None
