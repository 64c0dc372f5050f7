-- What it is for a view to be as its events left it, and that some events did.
use Rattle.std.specs.Prelude.{◌≡◌, ◌⊎◌, Bool, true, List, IsSome, Some, None, Result, Err}
use Rattle.lb_select_base.specs.declared.refusal.Refusal.{Refusal}
use Rattle.lb_select_base.specs.declared.refusal.Refusal.TheVariants.{GenerationsExhausted}
use Rattle.lb_health_core.specs.Registry.{IsRegistryAfter, IsUpdateRefusal, RegistryValue}
use Rattle.lb_health_core.specs.RegistryEvents.{Event}
use Rattle.lb_select_base.specs.Backends.{Member}
use Rattle.lb_health_view.specs.Snapshots.{ViewValue, value_at}
use Rattle.lb_health_view.specs.ViewEvents.{ViewEvent, generation_after, snapshots_after, listed, flag_after}

-- each flag that is needed is stored, and what is stored is right
pub record IsViewAfter (events : List ViewEvent) (v : ViewValue) : Type 0 where
  pub generation : v.generation ≡ generation_after events
  pub snapshots : v.snapshots ≡ snapshots_after events
  pub needed : (b : Member) → listed events b ≡ true → IsSome (value_at v.flags b)
  pub stored : (b : Member) (on : Bool) → value_at v.flags b ≡ Some on → on ≡ flag_after events b

-- a flag stays, or is a new one that enables
abbrev pub Flags : List (Member × Bool) → List (Member × Bool) → Member → Type 0
Flags old new b = (value_at new b ≡ value_at old b) ⊎ ((value_at old b ≡ None) × (value_at new b ≡ Some true))

-- an update of a view that may be refused: for memory, because a generation or a number is not left, or because the registry
-- has no such view
abbrev pub IsViewRefusal : {A : Type 0} → Result A Refusal → Type 0
IsViewRefusal r = (r ≡ Err GenerationsExhausted) ⊎ IsUpdateRefusal r

-- some history explains the view
abbrev pub IsFounded : ViewValue → Type 0
IsFounded v = (views : List ViewEvent) × IsViewAfter views v

-- whatever histories explain a view and a registry, by whatever function the registry's rule is, this holds of all three
abbrev pub HoldsOfBoth : {R : Type 0} → (R → Member → Member → Type 0) → ViewValue → RegistryValue R
    → ((Member → Member) → List ViewEvent → List Event → Type 0) → Type 0
HoldsOfBoth gives view registry Holds =
    (key_of : Member → Member) (views : List ViewEvent) (events : List Event) → IsViewAfter views view
    → IsRegistryAfter gives key_of events registry → Holds key_of views events
