-- What a view keeps apart from what contracts see of it.
use Rattle.std.specs.Prelude.{◌≡◌, Bool, true, false, List, [], ◌∷◌, Some}
use Rattle.lb_select_base.specs.Backends.{Member}
use Rattle.lb_health_core.specs.Registry.{HasOwnCells}
use Rattle.lb_health_view.specs.Snapshots.{SnapshotValue, value_at}

-- its flags: where none is disabled, each enables
abbrev pub AreFlagsOf : Bool → List (Member × Bool) → Type 0
AreFlagsOf disabled flags = disabled ≡ false → (b : Member) (on : Bool) → value_at flags b ≡ Some on → on ≡ true

-- its snapshots: each has cells of its members alone
abbrev pub HaveOwnCells : List SnapshotValue → Type 0
HaveOwnCells [] = Unit {0}
HaveOwnCells (s ∷ ss) = HasOwnCells s.members s.cells × HaveOwnCells ss
