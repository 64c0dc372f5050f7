-- What is known of a registry that threads share. Between two calls of a thread others may have made calls of their own, so what lies
-- under its lock is what some further events have made of the registry that the lock was made with.
use Rattle.std.specs.Prelude.{List, ◌++◌}
use Rattle.atomic_table.specs.Seated.{TableId}
use Rattle.lb_select_base.specs.Backends.{Member}
use Rattle.lb_health_core.specs.Registry.{RegistryValue, IsRegistryAfter, HoldsOf}
use Rattle.lb_health_core.specs.RegistryEvents.{Event}

-- the registry as it was when it came under the lock, and which lock it is behind
pub record RegistryHandle (R : Type 0) : Type 0 where
  pub start : RegistryValue R
  pub lock : TableId

module _ {R : Type 0} (gives : R → Member → Member → Type 0) where
  -- The second is the first after some further events: whichever history explains the first, by its own rule of keys, the second is
  -- after that history and those events.
  abbrev pub IsRegistryOf : RegistryValue R → RegistryValue R → Type 0
  IsRegistryOf start x =
      HoldsOf gives start (λ key_of events. (later : List Event) × IsRegistryAfter gives key_of (later ++ events) x)

  -- what was read at some state of this registry
  abbrev pub SeenIn : RegistryValue R → (RegistryValue R → Type 0) → Type 0
  SeenIn start Told = (x : RegistryValue R) × (IsRegistryOf start x × Told x)

  -- a call that was made at some state of this registry, and left one of its states
  abbrev pub UnderRegistry : RegistryValue R → (RegistryValue R → RegistryValue R → Type 0) → Type 0
  UnderRegistry start Call =
      (x : RegistryValue R) × ((y : RegistryValue R) × (IsRegistryOf start x × (IsRegistryOf x y × Call x y)))
