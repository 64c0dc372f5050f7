-- What words say of the cells of a registry: a word names a cell, and says whether that is kept and healthy; or it says nothing.
use Rattle.std.specs.Prelude.{◌≡◌, ◌%◌, ◌/◌, ℕ, Bool, true, false}
use Rattle.lb_select_base.specs.Backends.{Member}
use Rattle.lb_health_core.specs.Registry.{RegistryValue}
use Rattle.lb_health_core.specs.RegistryCalls.{IsCellReady}
use Rattle.lb_threads_core.specs.Registry.{SeenIn}

-- what a word says by its remainder by 4: 3 that the cell is kept and healthy, and 2 that it isn't; the others say nothing
abbrev pub told_as : Bool → ℕ
told_as true = 3
told_as false = 2

module _ {R : Type 0} (gives : R → Member → Member → Type 0) (start : RegistryValue R) where
  -- whether a cell is kept and healthy, as it was at some state of the registry
  abbrev pub WasHealthy : ℕ → Bool → Type 0
  WasHealthy cell healthy = SeenIn gives start (λ x. IsCellReady gives x cell healthy)

  -- what a word says is so of the cell that it names, by a quarter of it
  abbrev pub SaysOfCell : ℕ → Type 0
  SaysOfCell w = (healthy : Bool) → w % 4 ≡ told_as healthy → WasHealthy (w / 4) healthy
