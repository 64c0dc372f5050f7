-- What holds of every run, in the words of the promises. What is promised of a slot alone is said by the crate of groups, of the
-- slot's past.
use Rattle.std.specs.Prelude.{◌≡◌, ◌≤◌, ◌<◌, ◌==◌, ◌+◌, ℕ, true, false, List, [], ◌∷◌, length, count_by, Some}
use Rattle.std.specs.Prelude.{if◌then◌else◌, slice_get}
use Rattle.std.specs.List.{AllByRecursion as Each, list_any}
use Rattle.std.specs.Option.{IsSomeAnd}
use Rattle.lb_select_base.specs.Backends.{Member, same_member}
use Rattle.lb_select_base.specs.declared.refusal.Refusal.TheVariants as refusal
use Rattle.lb_health_core.specs.RegistryEvents.{IsCellKept, cell_health, views_after, has_view}
use Rattle.lb_health_view.specs.RegistrySide.{lives, registry_released, registry_updated}
use Rattle.lb_health_view.specs.Snapshots.{SnapshotValue, value_at}
use Rattle.lb_health_view.specs.ViewEvents.{generation_after, membership_after, snapshots_after, flag_after}
use Rattle.lb_rebuild_core.specs.SlotsHistory as slots
use Rattle.lb_rebuild_core.specs.Laws.{number, extras_from, Balanced, HasMembers}
use Rattle.lb_world.specs.Steps.{Step}
use Rattle.lb_world.specs.Steps as step
use Rattle.lb_world.specs.declared.answer.Answer.{Answer}
use Rattle.lb_world.specs.declared.answer.Answer.TheVariants as answer
use Rattle.lb_world.specs.History.{History, Made, idle, is_at, members_in, reads, made, made_at, slot_gate, entries, group_at}
use Rattle.lb_world.specs.History.{work, slot_events, past, extras, is_out, registry_of}
use Rattle.lb_world.specs.Shared.{is_live, extra_at, key_of, events_in, registry_at, registry_events}
use Rattle.lb_world.specs.GroupEvents.{group_events, cells_of, view_events}

module _ {C : Type 0} where
  -- the slot has a flight, a lost flight, or a retired selector that is not reported destroyed
  abbrev pub HasExtra : ℕ → ℕ → History C → Type 0
  HasExtra g s h = slots.is_extra (slots.extra (past g s h)) ≡ true

  -- of the slots on one gate at most one has an extra
  abbrev pub OneExtra : History C → Type 0
  OneExtra h =
      (a g s i r : ℕ) → slot_gate g s h ≡ Some a → slot_gate i r h ≡ Some a → HasExtra g s h → HasExtra i r h → (i ≡ g) × (r ≡ s)

  -- The permit of a gate is out where one of its slots has an extra, and nowhere else.
  pub record PermitsOut (h : History C) : Type 0 where
    pub out : (a g s : ℕ) → slot_gate g s h ≡ Some a → HasExtra g s h → is_out a h ≡ true
    pub whose : (a : ℕ) → is_out a h ≡ true → (g : ℕ) × (s : ℕ) × (slot_gate g s h ≡ Some a) × HasExtra g s h
    pub counted : (a : ℕ) → extras a h ≡ number (is_out a h)

  -- the flights, lost flights and retired selectors in the slots on a gate, of these groups, which are those from the place g on
  abbrev pub extras_over : ℕ → ℕ → List (Made C) → History C → ℕ
  extras_over a g [] h = 0
  extras_over a g (m ∷ ms) h =
      (if m.gate == a then extras_from 0 (length m.configs) (slot_events g h) else 0) + extras_over a (g + 1) ms h

  -- counted, they are those of the slots, and at most one
  pub record Counted (h : History C) : Type 0 where
    pub at_most : (a : ℕ) → extras a h ≤ 1
    pub standing : (a : ℕ) → extras a h ≡ extras_over a 0 (made h) h

  -- The ledger of each slot balances, in the words of the crate of groups: each generation of its group was published, coalesced or
  -- superseded, waits, or is in flight.
  pub record Ledger (h : History C) : Type 0 where
    pub balanced : (g s : ℕ) → Balanced (past g s h)
    pub of_group : (g s : ℕ) → slots.newest (past g s h) ≡ slots.newest (slot_events g h)

  -- a slot that neither builds nor waits serves the newest generation
  abbrev pub NewestServed : History C → Type 0
  NewestServed h =
      (g s : ℕ) → slots.is_flight (slots.extra (past g s h)) ≡ false → slots.waits (past g s h) ≡ false
      → slots.served (past g s h) ≡ slots.newest (slot_events g h)

  -- what is counted of the readers of a generation are the entries that are in
  abbrev pub ReadersExact : History C → Type 0
  ReadersExact h = (g s n : ℕ) → slots.readers n (past g s h) ≡ count_by (reads g s n) (entries h)

  -- What came back had the members of its job: so jobs and selectors have the members of their generation.
  abbrev pub MembersKept : History C → Type 0
  MembersKept h = (g s : ℕ) → HasMembers (past g s h)

  -- each slot's generations are within its group's
  abbrev pub Bounded : History C → Type 0
  Bounded h = (g s : ℕ) → slots.served (past g s h) ≤ slots.newest (slot_events g h)

  -- no step lowers what a slot serves
  abbrev pub NeverFalls : History C → Step C → Answer → Type 0
  NeverFalls h st a = (g s : ℕ) → slots.served (past g s h) ≤ slots.served (past g s ((st, a) ∷ h))

  -- A slot that is there, waits and is due, of a group that is not cancelled, gets a job of the newest generation where the extras
  -- of its gate are 0.
  abbrev pub FreeGatesGrant : History C → Step C → Answer → Type 0
  FreeGatesGrant h (step.ask g s now) a =
      (m : Made C) (c : C) → made_at g h ≡ Some m → slice_get m.configs s ≡ Some c → slots.is_cancelled (slot_events g h) ≡ false
      → slots.waits (past g s h) ≡ true → slots.due_moment (past g s h) ≤ now → extras m.gate h ≡ 0
      → a ≡ answer.Build (slots.newest (slot_events g h))
  FreeGatesGrant h st a = Unit {0}

  -- a publication raises what its slot serves, to the generation that it returns
  abbrev pub Raises : History C → Step C → Answer → Type 0
  Raises h (step.publish g s) (answer.Published n) =
      (slots.served (past g s h) < n) × (slots.served (past g s ((step.publish g s, answer.Published n) ∷ h)) ≡ n)
  Raises h st a = Unit {0}

  -- A retired selector is destroyed where no reader is in it, and else the answer is how many are.
  abbrev pub DestroysExactly : History C → Step C → Answer → Type 0
  DestroysExactly h (step.destroy g s) answer.Destroyed =
      (n : ℕ) × (slots.extra (past g s h) ≡ slots.retired n) × (count_by (reads g s n) (entries h) ≡ 0)
  DestroysExactly h (step.destroy g s) (answer.Refused (refusal.StillRead m)) =
      (n : ℕ) × (slots.extra (past g s h) ≡ slots.retired n) × (count_by (reads g s n) (entries h) ≡ m) × (0 < m)
  DestroysExactly h st a = Unit {0}

  -- what a step does at one group changes no other's events, which are those of its view too, and those of no other registry
  pub record OthersStay (h : History C) (st : Step C) (a : Answer) : Type 0 where
    pub joined : (g : ℕ) → is_at g (group_at h st) ≡ false → group_events g ((st, a) ∷ h) ≡ group_events g h
    pub registries : (r : ℕ) → is_at r (registry_at h st) ≡ false → registry_events r ((st, a) ∷ h) ≡ registry_events r h

  -- A group's view is at its newest generation and membership, and each snapshot that lives has the members and the cells of its own
  -- generation.
  abbrev pub IsSnapshotOf : ℕ → History C → SnapshotValue → Type 0
  IsSnapshotOf g h s =
      (s.generation ≤ slots.newest (slot_events g h)) × (s.members ≡ slots.members_of s.generation (slot_events g h))
      × (s.cells ≡ cells_of g s.generation h)

  pub record ViewFollows (g : ℕ) (h : History C) : Type 0 where
    pub generation : generation_after (view_events g h) ≡ slots.newest (slot_events g h)
    pub membership : membership_after (view_events g h) ≡ slots.members_of (slots.newest (slot_events g h)) (slot_events g h)
    pub snapshots : Each (IsSnapshotOf g h) (snapshots_after (view_events g h))

  -- A snapshot of a group's view lives exactly while it is the newest or some slot holds it: as what it serves, or as a flight, a lost
  -- flight or a retired selector.
  abbrev pub LivesExactly : History C → Type 0
  LivesExactly h =
      (g : ℕ) (m : Made C) → made_at g h ≡ Some m → (n : ℕ)
      → lives n (snapshots_after (view_events g h)) ≡ is_live n m.configs (slot_events g h)

  -- What a step does to a group's registry is what the view's own calls do to theirs: an update, and the end of a hold.
  abbrev pub SharesAlike : History C → Step C → Answer → Type 0
  SharesAlike h (step.update g now listings) (answer.Generation n) =
      (m : Made C) → made_at g h ≡ Some m
      → registry_events m.registry ((step.update g now listings, answer.Generation n) ∷ h)
      ≡ registry_updated (key_of g h) m.view (members_in listings) (view_events g h) (registry_events m.registry h)
  SharesAlike h (step.build g s now) (answer.BuildFailed n r) =
      (m : Made C) → made_at g h ≡ Some m
      → registry_events m.registry ((step.build g s now, answer.BuildFailed n r) ∷ h)
      ≡ registry_released m.view (extra_at g s h) (view_events g h) (registry_events m.registry h)
  SharesAlike h (step.failbuild g s now) (answer.Failed n) =
      (m : Made C) → made_at g h ≡ Some m
      → registry_events m.registry ((step.failbuild g s now, answer.Failed n) ∷ h)
      ≡ registry_released m.view (extra_at g s h) (view_events g h) (registry_events m.registry h)
  SharesAlike h (step.destroy g s) answer.Destroyed =
      (m : Made C) → made_at g h ≡ Some m
      → registry_events m.registry ((step.destroy g s, answer.Destroyed) ∷ h)
      ≡ registry_released m.view (extra_at g s h) (view_events g h) (registry_events m.registry h)
  SharesAlike h st a = Unit {0}

  -- A backend is judged ready in a generation only by the members and the cells of that generation.
  pub record JudgedBy (g n : ℕ) (b : Member) (h : History C) : Type 0 where
    pub listed : list_any (same_member b) (slots.members_of n (slot_events g h)) ≡ true
    pub enabled : flag_after (view_events g h) b ≡ true
    pub cell : IsSomeAnd (value_at (cells_of g n h) b)
        (λ c. IsCellKept (key_of g h) c (events_in (registry_of g h) h)
        × (cell_health (key_of g h) c (events_in (registry_of g h) h) ≡ true))

  -- the view of a group that is not cancelled is registered, and no mark waits for it
  abbrev pub IsRegistered : ℕ → History C → Type 0
  IsRegistered g h =
      (m : Made C) → made_at g h ≡ Some m → slots.is_cancelled (slot_events g h) ≡ false
      → has_view m.view (views_after (registry_events m.registry h)) ≡ true

  -- to a group that isn't there nothing has happened
  pub record Untouched (g : ℕ) (h : History C) : Type 0 where
    pub events : slot_events g h ≡ []
    pub works : (s : ℕ) → work g s h ≡ idle
