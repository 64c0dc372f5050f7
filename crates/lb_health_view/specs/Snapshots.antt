-- What contracts see of a view: its snapshots, each with its members and their cells, and the flags.
use Rattle.std.specs.Prelude.{◌≡◌, ◌⊎◌, ℕ, ◌+◌, ◌-◌, Bool, not, ◌||◌, ◌==◌, ◌^◌, nat_lt, List, [], ◌∷◌, filter, find, Option, if◌then◌else◌}
use Rattle.std.specs.Arc.{arc_value}
use Rattle.std.specs.List.{list_any}
use Rattle.std.specs.Map.{lookup}
use Rattle.lb_select_base.specs.Backends.{Member, same_member}
use Rattle.lb_health_view.specs.declared.snapshot.ViewSnapshot.{ViewSnapshot}

-- a generation of a view: its members in order, the cell of each, and how often it is held
pub record SnapshotValue : Type 0 where
  pub generation : ℕ
  pub members : List Member
  pub cells : List (Member × ℕ)
  pub holds : ℕ

-- a view: its number in its registry, its newest generation, the snapshots that live, and the flag of each backend that has one
pub record ViewValue : Type 0 where
  pub id : ℕ
  pub generation : ℕ
  pub snapshots : List SnapshotValue
  pub flags : List (Member × Bool)

-- how a snapshot is seen
abbrev pub snapshot_of : ViewSnapshot → SnapshotValue
snapshot_of s = record { generation = s.generation; members = (arc_value s.members).keys; cells = s.cells; holds = s.holds }

-- a snapshot that is held once more, and once less
abbrev pub held_more : SnapshotValue → SnapshotValue
held_more s = record s { holds = s.holds + 1 }

abbrev pub held_less : SnapshotValue → SnapshotValue
held_less s = record s { holds = s.holds - 1 }

-- whether it is of another generation or can be held once more
abbrev pub can_hold : ℕ → SnapshotValue → Bool
can_hold g s = not (s.generation == g) || nat_lt (s.holds + 1) (2 ^ 64)

-- the snapshots with that of this generation changed
abbrev pub at_generation : ℕ → (SnapshotValue → SnapshotValue) → List SnapshotValue → List SnapshotValue
at_generation g f [] = []
at_generation g f (s ∷ ss) = if s.generation == g then f s ∷ ss else s ∷ at_generation g f ss

-- a snapshot lives while it is the current one or held
abbrev pub living : ℕ → List SnapshotValue → List SnapshotValue
living current ss = filter (λ s. s.generation == current || nat_lt 0 s.holds) ss

-- whether one of the snapshots lists the backend
abbrev pub lists_in : Member → List SnapshotValue → Bool
lists_in b ss = list_any (λ s. list_any (same_member b) s.members) ss

-- the snapshot of this generation
abbrev pub snapshot_at : ℕ → List SnapshotValue → Option SnapshotValue
snapshot_at g ss = find (λ s. s.generation == g) ss

-- this snapshot is one of these
abbrev pub IsAmong : SnapshotValue → List SnapshotValue → Type 0
IsAmong s [] = ⊥
IsAmong s (t ∷ ts) = (t ≡ s) ⊎ IsAmong s ts

-- the cell of a backend in a snapshot, or its flag in a view
abbrev pub value_at : {V : Type 0} → List (Member × V) → Member → Option V
value_at entries b = lookup (same_member b) entries

-- the flags of the backends that these snapshots list
abbrev pub flags_listed : List SnapshotValue → List (Member × Bool) → List (Member × Bool)
flags_listed ss flags = filter (λ e. lists_in e.0 ss) flags

-- what holds of the first snapshot, where there is one
abbrev pub IfHead : List SnapshotValue → (SnapshotValue → Type 0) → Type 0
IfHead [] P = Unit {0}
IfHead (s ∷ ss) P = P s
