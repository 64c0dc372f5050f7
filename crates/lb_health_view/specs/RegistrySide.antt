-- What the calls of a view do to its own history and to that of its registry, and when a backend is ready.
use Rattle.std.specs.Prelude.{◌≡◌, ℕ, ◌+◌, Bool, true, ◌==◌, List, [], ◌∷◌, Some, map, if◌then◌else◌}
use Rattle.std.specs.List.{list_any}
use Rattle.std.specs.Option.{IsSomeAnd}
use Rattle.lb_select_base.specs.AddressText.{bare_member}
use Rattle.lb_select_base.specs.Backends.{Member, same_member}
use Rattle.lb_select_base.specs.Memberships.{same_members}
use Rattle.lb_select_base.specs.Seen.{address_seen}
use Rattle.lb_select_base.specs.declared.backend.SocketAddr.{SocketAddr}
use Rattle.lb_health_core.specs.RegistryEvents as registry
use Rattle.lb_health_view.specs.Snapshots.{SnapshotValue, snapshot_at, value_at}
use Rattle.lb_health_view.specs.ViewEvents.{ViewEvent, Shown, Released, Set, generation_after, membership_after, snapshots_after}
use Rattle.lb_health_view.specs.ViewEvents.{flag_after}

-- whether a snapshot of this generation is among these
abbrev pub lives : ℕ → List SnapshotValue → Bool
lives g ss = list_any (λ s. s.generation == g) ss

-- the registry lets the cells of a snapshot go where it no longer lives
abbrev pub without_gone : ℕ → ℕ → List ViewEvent → List registry.Event → List registry.Event
without_gone id g views events = if lives g (snapshots_after views) then events else registry.Released id g ∷ events

-- the registry of a view after one hold of a snapshot ended
abbrev pub registry_released : ℕ → ℕ → List ViewEvent → List registry.Event → List registry.Event
registry_released id g views events = without_gone id g (Released g ∷ views) events

-- the settings of a discovery, each with a backend of that identity
abbrev pub settings_of : List ((SocketAddr × ℕ) × Bool) → List (Member × Bool)
settings_of entries = map (λ e. (bare_member e.0.1 (address_seen e.0.0), e.1)) entries

-- settings reach the members of the newest membership alone
abbrev pub after_settings : List (Member × Bool) → List ViewEvent → List ViewEvent
after_settings [] views = views
after_settings (e ∷ rest) views =
    after_settings rest (if list_any (same_member e.0) (membership_after views) then Set e.0 e.1 ∷ views else views)

-- a membership of other identities is shown, with these cells
abbrev pub with_membership : List Member → List (Member × ℕ) → List ViewEvent → List ViewEvent
with_membership members cells views = (if same_members members (membership_after views) then views else Shown members cells ∷ views)

-- a new membership: the view shows it with the cells of its backends' keys
abbrev pub view_changed : (Member → Member) → ℕ → List Member → List registry.Event → List ViewEvent → List ViewEvent
view_changed key_of id members events views = Shown members (registry.shown_cells key_of id members events) ∷ views

-- and the registry lets its snapshot live, and the one before it go unless that is held
abbrev pub registry_changed : (Member → Member) → ℕ → List Member → List ViewEvent → List registry.Event → List registry.Event
registry_changed key_of id members views events =
    without_gone id (generation_after views) (view_changed key_of id members events views)
    (registry.after_show id (generation_after views + 1) members events)

-- an update: a membership of the same identities changes nothing but the flags
abbrev pub view_updated : (Member → Member) → ℕ → List Member → List (Member × Bool) → List registry.Event → List ViewEvent → List ViewEvent
view_updated key_of id members settings events views =
    after_settings settings (if same_members members (membership_after views) then views else view_changed key_of id members events views)

abbrev pub registry_updated : (Member → Member) → ℕ → List Member → List ViewEvent → List registry.Event → List registry.Event
registry_updated key_of id members views events =
    (if same_members members (membership_after views) then events else registry_changed key_of id members views events)

-- the cell that the snapshot has for the backend is kept and healthy
abbrev pub IsHealthyIn : (Member → Member) → List registry.Event → Member → SnapshotValue → Type 0
IsHealthyIn key_of events b s =
    IsSomeAnd (value_at s.cells b) (λ c. registry.IsCellKept key_of c events × (registry.cell_health key_of c events ≡ true))

-- a backend is ready in a snapshot that lists it, where its flag is enabled and its cell healthy
pub record IsReadyIn (key_of : Member → Member) (views : List ViewEvent) (events : List registry.Event) (b : Member)
    (s : SnapshotValue) : Type 0 where
  pub listed : list_any (same_member b) s.members ≡ true
  pub enabled : flag_after views b ≡ true
  pub healthy : IsHealthyIn key_of events b s

-- a snapshot lists a backend, has this cell for it, and the backend's flag is this
pub record HasCell (views : List ViewEvent) (b : Member) (c : ℕ) (enabled : Bool) (s : SnapshotValue) : Type 0 where
  pub listed : list_any (same_member b) s.members ≡ true
  pub flag : flag_after views b ≡ enabled
  pub cell : value_at s.cells b ≡ Some c

-- the same of the snapshot of a generation, which lives
abbrev pub HasCellIn : List ViewEvent → ℕ → Member → ℕ → Bool → Type 0
HasCellIn views g b c enabled = IsSomeAnd (snapshot_at g (snapshots_after views)) (HasCell views b c enabled)

-- whether a backend is ready in the snapshot of a generation, which has to live
abbrev pub IsReady : (Member → Member) → List ViewEvent → List registry.Event → ℕ → Member → Type 0
IsReady key_of views events g b = IsSomeAnd (snapshot_at g (snapshots_after views)) (IsReadyIn key_of views events b)
