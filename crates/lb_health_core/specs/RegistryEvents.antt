-- What happens to a registry, as a history of events that begins with the newest: its views, and what their changes do
-- to its cells.
use Rattle.std.specs.Prelude.{ℕ, ◌+◌, Bool, true, false, not, ◌==◌, ◌&&◌, List, [], ◌∷◌, ◌++◌, fold, if◌then◌else◌, Option}
use Rattle.std.specs.Ordering.{eq_by_cmp, nat_cmp}
use Rattle.std.specs.BTreeMap.{insert_entry}
use Rattle.std.specs.BTreeSet.{insert_key}
use Rattle.std.specs.List.{filter_map, list_any}
use Rattle.std.specs.List.Sorted.{IsStrictlySortedBy}
use Rattle.std.specs.Option.{option_map}
use Rattle.std.specs.Map.{values_of}
use Rattle.lb_select_base.specs.Backends.{Member, member_cmp, same_member}
use Rattle.lb_select_base.specs.Memberships.{same_members}
use Rattle.lb_health_core.specs.CellEvents as cell
use Rattle.lb_health_core.specs.Starts.{cell_now}
use Rattle.lb_health_core.specs.Targets.{ViewValue, live, target_keys}
use Rattle.lb_health_core.specs.Verdicts.{Verdict}

pub data Event : Type 0 where
  -- a view is registered
  Registered : Event
  -- the marks that wait are applied
  Applied : Event
  -- a view gets another membership
  Updated : ℕ → List Member → Event
  -- a view is marked for removal
  Marked : ℕ → Event
  -- a verdict reaches a cell
  Observed : ℕ → Verdict → Event
  -- a view's membership begins to live, as the snapshot of a generation
  Held : ℕ → ℕ → Event
  -- the life of a view's snapshot of a generation ends
  Released : ℕ → ℕ → Event
  -- cells that start from now on begin healthy, or not
  Configured : Bool → Event

-- whether this is the view of that number, and its removal doesn't wait
abbrev pub is_view : ℕ → ViewValue → Bool
is_view id v = v.id == id && not v.marked

-- whether there is such a view
abbrev pub has_view : ℕ → List ViewValue → Bool
has_view id views = list_any (is_view id) views

-- the views, with f of that one
abbrev pub at_view : ℕ → (ViewValue → ViewValue) → List ViewValue → List ViewValue
at_view id f [] = []
at_view id f (v ∷ vs) = if is_view id v then f v ∷ vs else v ∷ at_view id f vs

-- the membership of that view
abbrev pub members_of : ℕ → List ViewValue → List Member
members_of id [] = []
members_of id (v ∷ vs) = if is_view id v then v.members else members_of id vs

abbrev pub with_members : List Member → ViewValue → ViewValue
with_members members v = record { id = v.id; marked = v.marked; members = members }

abbrev pub with_mark : ViewValue → ViewValue
with_mark v = record { id = v.id; marked = true; members = v.members }

-- a view without members, not marked
abbrev pub new_view : ℕ → ViewValue
new_view id = record { id = id; marked = false; members = [] }

-- how many views were registered; the number of a view is how many they were with it
abbrev pub registered_after : List Event → ℕ
registered_after [] = 0
registered_after (Registered ∷ earlier) = registered_after earlier + 1
registered_after (Applied ∷ earlier) = registered_after earlier
registered_after (Updated id members ∷ earlier) = registered_after earlier
registered_after (Marked id ∷ earlier) = registered_after earlier
registered_after (Observed c v ∷ earlier) = registered_after earlier
registered_after (Held id generation ∷ earlier) = registered_after earlier
registered_after (Released id generation ∷ earlier) = registered_after earlier
registered_after (Configured healthy ∷ earlier) = registered_after earlier

-- the views, those with a mark included until it is applied
abbrev pub views_after : List Event → List ViewValue
views_after [] = []
views_after (Registered ∷ earlier) = views_after earlier ++ new_view (registered_after earlier + 1) ∷ []
views_after (Applied ∷ earlier) = live (views_after earlier)
views_after (Updated id members ∷ earlier) = at_view id (with_members members) (views_after earlier)
views_after (Marked id ∷ earlier) = at_view id with_mark (views_after earlier)
views_after (Observed c v ∷ earlier) = views_after earlier
views_after (Held id generation ∷ earlier) = views_after earlier
views_after (Released id generation ∷ earlier) = views_after earlier
views_after (Configured healthy ∷ earlier) = views_after earlier

-- each membership in these events is a set: its backends ascend by identity
abbrev pub AreSets : List Event → Type 0
AreSets [] = Unit {0}
AreSets (Registered ∷ earlier) = AreSets earlier
AreSets (Applied ∷ earlier) = AreSets earlier
AreSets (Updated id members ∷ earlier) = IsStrictlySortedBy member_cmp members × AreSets earlier
AreSets (Marked id ∷ earlier) = AreSets earlier
AreSets (Observed c v ∷ earlier) = AreSets earlier
AreSets (Held id generation ∷ earlier) = AreSets earlier
AreSets (Released id generation ∷ earlier) = AreSets earlier
AreSets (Configured healthy ∷ earlier) = AreSets earlier

-- the pairs in a map by backend
abbrev pub in_map : List (Member × ℕ) → List (Member × ℕ)
in_map pairs = fold (λ entries p. insert_entry member_cmp entries p.0 p.1) [] pairs

module _ (key_of : Member → Member) (changes : List (List Member)) where
  -- a backend with its cell, where its key has one
  abbrev pub cell_pair : Member → Option (Member × ℕ)
  cell_pair b = option_map (λ c. (b, c)) (cell_now same_member changes (key_of b))

  -- the cells of a membership, by backend
  abbrev pub cells_by : List Member → List (Member × ℕ)
  cells_by members = in_map (filter_map cell_pair members)

-- the cells that a snapshot has, in order
abbrev pub cells_in : List (Member × ℕ) → List ℕ
cells_in entries = fold (insert_key nat_cmp) [] (values_of entries)

-- whether this event ends the life of that view's snapshot of that generation
abbrev pub is_release : ℕ → ℕ → Event → Bool
is_release id generation Registered = false
is_release id generation Applied = false
is_release id generation (Updated view members) = false
is_release id generation (Marked view) = false
is_release id generation (Observed c v) = false
is_release id generation (Held view g) = false
is_release id generation (Released view g) = id == view && generation == g
is_release id generation (Configured healthy) = false

-- whether one of these events does
abbrev pub is_released : ℕ → ℕ → List Event → Bool
is_released id generation events = list_any (is_release id generation) events

module _ (key_of : Member → Member) where
  -- what the events do to the cells: a change leaves the targets of the views that are there after it
  abbrev pub cell_events : List Event → List (cell.CellEvent Member)
  cell_events [] = []
  cell_events (Registered ∷ earlier) = cell_events earlier
  cell_events (Applied ∷ earlier) = cell.Changed (target_keys key_of (live (views_after earlier))) ∷ cell_events earlier
  cell_events (Updated id members ∷ earlier) =
      cell.Changed (target_keys key_of (at_view id (with_members members) (views_after earlier))) ∷ cell_events earlier
  cell_events (Marked id ∷ earlier) = cell_events earlier
  cell_events (Observed c v ∷ earlier) = cell.Observed c v ∷ cell_events earlier
  cell_events (Held id generation ∷ earlier) =
      cell.Held id generation (cells_in (cells_by key_of (cell.changes (cell_events earlier)) (members_of id (views_after earlier))))
      ∷ cell_events earlier
  cell_events (Released id generation ∷ earlier) = cell.Released id generation ∷ cell_events earlier
  cell_events (Configured healthy ∷ earlier) = cell.Configured healthy ∷ cell_events earlier

  -- the changes of targets
  abbrev pub changes_after : List Event → List (List Member)
  changes_after events = cell.changes (cell_events events)

  -- the cells that a view's snapshot has when it begins to live: those of its membership
  abbrev pub held_cells : ℕ → List Event → List ℕ
  held_cells id events = cells_in (cells_by key_of (changes_after events) (members_of id (views_after events)))

  -- whether that view's snapshot of that generation lives and has the cell
  abbrev pub holds_cell : ℕ → ℕ → ℕ → List Event → Bool
  holds_cell id generation c events =
      list_any (λ h. cell.is_hold_of id generation h && list_any (eq_by_cmp nat_cmp c) h.cells) (cell.holds_after (cell_events events))

  -- how many numbers of cells were given
  abbrev pub cells_given : List Event → ℕ
  cells_given events = cell.given_after same_member (cell_events events)

  -- the health of a cell
  abbrev pub cell_health : ℕ → List Event → Bool
  cell_health c events = cell.health_of same_member c (cell_events events)

  -- the cell is kept
  abbrev pub IsCellKept : ℕ → List Event → Type 0
  IsCellKept c events = cell.IsKept member_cmp (cell_events events) c

-- a view's update, where the membership is another one: the marks that wait are applied, then it changes
abbrev pub after_update : ℕ → List Member → List Event → List Event
after_update id members events =
    (if same_members members (members_of id (views_after events)) then events else Updated id members ∷ Applied ∷ events)

-- a view's next snapshot: the marks are applied, the membership changes, and it begins to live as that generation
abbrev pub after_show : ℕ → ℕ → List Member → List Event → List Event
after_show id generation members events = Held id generation ∷ Updated id members ∷ Applied ∷ events

-- the cells of the snapshot that `after_show` lets live, by backend
abbrev pub shown_cells : (Member → Member) → ℕ → List Member → List Event → List (Member × ℕ)
shown_cells key_of id members events = cells_by key_of (changes_after key_of (Updated id members ∷ Applied ∷ events)) members
