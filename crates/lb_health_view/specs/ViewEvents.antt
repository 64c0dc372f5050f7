-- What happens to a view, newest first, and what can be seen of it then: its generation, its membership, the snapshots that
-- live, and the flag of each backend.
use Rattle.std.specs.Prelude.{ℕ, ◌+◌, Bool, true, ◌&&◌, List, [], ◌∷◌, ◌++◌, if◌then◌else◌}
use Rattle.lb_select_base.specs.Backends.{Member, same_member}
use Rattle.lb_health_view.specs.Snapshots.{SnapshotValue, held_more, held_less, at_generation, living, lists_in}

-- a new membership with the cells of its backends; a snapshot is held, or released once; a backend is enabled or disabled
pub data ViewEvent : Type 0 where
  Shown : List Member → List (Member × ℕ) → ViewEvent
  Held : ℕ → ViewEvent
  Released : ℕ → ViewEvent
  Set : Member → Bool → ViewEvent

-- the newest generation: how many memberships were shown
abbrev pub generation_after : List ViewEvent → ℕ
generation_after [] = 0
generation_after (Shown members cells ∷ earlier) = generation_after earlier + 1
generation_after (Held g ∷ earlier) = generation_after earlier
generation_after (Released g ∷ earlier) = generation_after earlier
generation_after (Set b on ∷ earlier) = generation_after earlier

-- the membership of the newest generation; that of generation 0 is empty
abbrev pub membership_after : List ViewEvent → List Member
membership_after [] = []
membership_after (Shown members cells ∷ earlier) = members
membership_after (Held g ∷ earlier) = membership_after earlier
membership_after (Released g ∷ earlier) = membership_after earlier
membership_after (Set b on ∷ earlier) = membership_after earlier

-- a snapshot that is new: nobody holds it
abbrev pub new_snapshot : ℕ → List Member → List (Member × ℕ) → SnapshotValue
new_snapshot g members cells = record { generation = g; members = members; cells = cells; holds = 0 }

-- the current snapshot comes first; a new one puts it behind the others, which are ordered by age
abbrev pub by_age : List SnapshotValue → List SnapshotValue
by_age [] = []
by_age (current ∷ others) = others ++ current ∷ []

-- the snapshots that live: the current one, and then those that are held, the oldest first
abbrev pub snapshots_after : List ViewEvent → List SnapshotValue
snapshots_after [] = new_snapshot 0 [] [] ∷ []
snapshots_after (Shown members cells ∷ earlier) =
    new_snapshot (generation_after earlier + 1) members cells ∷ living (generation_after earlier + 1) (by_age (snapshots_after earlier))
snapshots_after (Held g ∷ earlier) = at_generation g held_more (snapshots_after earlier)
snapshots_after (Released g ∷ earlier) = living (generation_after earlier) (at_generation g held_less (snapshots_after earlier))
snapshots_after (Set b on ∷ earlier) = snapshots_after earlier

-- whether a snapshot that lives lists the backend
abbrev pub listed : List ViewEvent → Member → Bool
listed events b = lists_in b (snapshots_after events)

-- the flag of a backend: the last setting that reached it since living snapshots have listed it without a break; with none,
-- enabled
abbrev pub flag_after : List ViewEvent → Member → Bool
flag_after [] b = true
flag_after (Set c on ∷ earlier) b = if same_member c b && listed earlier c then on else flag_after earlier b
flag_after (Shown members cells ∷ earlier) b = if listed (Shown members cells ∷ earlier) b then flag_after earlier b else true
flag_after (Released g ∷ earlier) b = if listed (Released g ∷ earlier) b then flag_after earlier b else true
flag_after (Held g ∷ earlier) b = flag_after earlier b
