-- What happens to a group that is joined with its view, and what each event is for the group and for the view: the view shows the
-- group's memberships, and holds a snapshot once for each slot that serves its generation or has it in a flight, a lost flight, or
-- a retired selector that is not yet reported destroyed.
use Rattle.std.specs.Prelude.{◌==◌, ◌&&◌, ◌+◌, ℕ, zero, suc, Bool, nat_lt, List, [], ◌∷◌, ◌++◌, replicate, if◌then◌else◌}
use Rattle.std.specs.List.{list_any}
use Rattle.lb_select_base.specs.Backends.{Member, same_member}
use Rattle.lb_rebuild_core.specs.SlotsHistory as slots
use Rattle.lb_rebuild_core.specs.Laws.{number}
use Rattle.lb_health_view.specs.ViewEvents as view

pub data Event : Type 0 where
  -- another membership with the cells of its backends, at a moment
  Shown : List Member → List (Member × ℕ) → ℕ → Event
  -- a backend is enabled or disabled
  Set : Member → Bool → Event
  -- rebuilds stop
  Cancelled : Event
  -- something happens at a slot
  At : ℕ → slots.SlotEvent → Event

-- the newest event first
abbrev pub History : Type 0
History = List Event

-- what happens to the group
abbrev pub slot_events : History → slots.History
slot_events [] = []
slot_events (Shown ms cells now ∷ e) = slots.Scheduled ms now ∷ slot_events e
slot_events (Set b on ∷ e) = slot_events e
slot_events (Cancelled ∷ e) = slots.Cancelled ∷ slot_events e
slot_events (At i x ∷ e) = slots.At i x ∷ slot_events e

-- events of a group alone; a membership is shown without cells
abbrev pub in_group : slots.History → History
in_group [] = []
in_group (slots.Scheduled ms now ∷ h) = Shown ms [] now ∷ in_group h
in_group (slots.Cancelled ∷ h) = Cancelled ∷ in_group h
in_group (slots.At i x ∷ h) = At i x ∷ in_group h

-- A job holds the newest snapshot, and a failure or a report that a selector is destroyed lets one go; a publication and what
-- else happens at a slot move what is held from one place to another. `there` says whether the slot is, and `p` is its past.
abbrev pub hold_events : Bool → slots.SlotEvent → slots.History → List view.ViewEvent
hold_events there (slots.Granted now) p = if there then view.Held (slots.newest p) ∷ [] else []
hold_events there (slots.Failed now ms) p = if there then view.Released (slots.granted p) ∷ [] else []
hold_events there slots.Destroyed p = if there then view.Released (slots.generation_of (slots.extra p)) ∷ [] else []
hold_events there x p = []

-- what happens to the view of a group of k slots: at first each of them serves generation 0, and holds its snapshot
abbrev pub view_events : ℕ → History → List view.ViewEvent
view_events k [] = replicate k (view.Held 0)
view_events k (Shown ms cells now ∷ e) = view.Shown ms cells ∷ view_events k e
view_events k (Set b on ∷ e) = view.Set b on ∷ view_events k e
view_events k (Cancelled ∷ e) = view_events k e
view_events k (At i x ∷ e) = hold_events (nat_lt i k) x (slots.past_of i (slot_events e)) ++ view_events k e

-- the membership of the newest generation
abbrev pub members_now : History → List Member
members_now e = slots.members_of (slots.newest (slot_events e)) (slot_events e)

-- settings of a discovery reach the members of the newest membership alone
abbrev pub after_settings : List (Member × Bool) → History → History
after_settings [] e = e
after_settings (s ∷ rest) e = after_settings rest (if list_any (same_member s.0) (members_now e) then Set s.0 s.1 ∷ e else e)

-- how often a slot with this past has the generation: as what it serves, and as its extra
abbrev pub slot_holds : ℕ → slots.History → ℕ
slot_holds n p =
    number (slots.served p == n) + number (slots.is_extra (slots.extra p) && (slots.generation_of (slots.extra p) == n))

-- a sum over k slots from the place i on
abbrev pub over_slots : (slots.History → ℕ) → ℕ → ℕ → slots.History → ℕ
over_slots f i zero h = 0
over_slots f i (suc k) h = f (slots.past_of i h) + over_slots f (i + 1) k h

-- how often k slots have the generation
abbrev pub holders : ℕ → ℕ → slots.History → ℕ
holders n k h = over_slots (λ p. slot_holds n p) 0 k h
