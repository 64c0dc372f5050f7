-- A world after a history: the answers are a run, and each table is what the history says.
use Rattle.std.specs.Prelude.{◌≡◌, ℕ, Bool, true, false, ◌||◌, List, ◌∷◌, Some, length, map, slice_get, if◌then◌else◌}
use Rattle.std.specs.Option.{option_map}
use Rattle.lb_select_base.specs.Backends.{Member}
use Rattle.lb_select_base.specs.Loads.{load_in}
use Rattle.lb_rebuild_core.specs.Gate.{GateValue, gate}
use Rattle.lb_health_core.specs.Registry.{RegistryValue, IsRegistryAfter}
use Rattle.lb_rebuild_core.specs.Values.{configs_of}
use Rattle.lb_rebuild_core.specs.GroupStates as group
use Rattle.lb_world.specs.Steps.{Step}
use Rattle.lb_world.specs.declared.answer.Answer.{Answer}
use Rattle.lb_world.specs.Meanings.{Meaning}
use Rattle.lb_world.specs.History.{History, Made, registries, gates, made, made_at, entries, past, work, is_out, is_grant, is_failure}
use Rattle.lb_world.specs.History.{is_destruction, load_of}
use Rattle.lb_world.specs.Shared.{key_at, key_of, registry_events}
use Rattle.lb_world.specs.Answers.{IsRun, Answers}
use Rattle.lb_world.specs.GroupEvents.{group_events}
use Rattle.lb_world.specs.Rules.{WorldRule, key_gives}
use Rattle.lb_world.specs.Views.{WorkValue, OpenReaderValue, entered_of, EntryValue, WorldValue, site, origin, IsOwnReader}
use Rattle.lb_world.specs.Works.{held_of}

-- the permit of a gate after a step at one of its groups
abbrev pub permit_after : {C : Type 0} → Step C → Answer → Bool → Bool
permit_after st a out = if is_grant st a then true else if is_failure st a || is_destruction st a then false else out

-- the gate of a group is there, and its registry, each with the identity that the group has of it
pub record OnSite {C : Type 0} (w : WorldValue C) (e : EntryValue C) : Type 0 where
  pub view : GateValue
  pub gate : slice_get w.gates e.gate ≡ Some view
  pub id : view.id ≡ e.core.group.gate
  pub shared : RegistryValue WorldRule
  pub registry : slice_get w.registries e.registry ≡ Some shared
  pub one : shared.id ≡ e.core.registry

module _ {C : Type 0} where
  -- what a group was made with, as its entry has it
  abbrev pub made_of : EntryValue C → Made C
  made_of e = record { registry = e.registry; gate = e.gate; view = e.core.view.id; configs = configs_of e.core.group }

  -- what is held for each slot of the group is what the history says
  abbrev pub AreHeld : History C → ℕ → EntryValue C → List (WorkValue C) → Type 0
  AreHeld h g e held =
      (s : ℕ) (c : C) (k : WorkValue C) → slice_get (configs_of e.core.group) s ≡ Some c → slice_get held s ≡ Some k
      → k ≡ held_of (origin e.core) s c (past g s h) (work g s h)

  -- the entry is what the history says of the group
  pub record EntryIs (h : History C) (g : ℕ) (e : EntryValue C) : Type 0 where
    pub made_is : made_at g h ≡ Some (made_of e)
    pub core_is : group.Stands (site e.core) (group_events g h) e.core
    pub works_in : length e.works ≡ length (configs_of e.core.group)
    pub works_are : AreHeld h g e e.works
    pub loads_are : (b : Member) → load_in e.loads b ≡ load_of g b h

module _ {C : Type 0} (M : Meaning C) where
  pub record Stands (w : WorldValue C) (h : History C) : Type 0 where
    pub run : IsRun M h
    pub registries_are : length w.registries ≡ length (registries h)
    pub gates_are : length w.gates ≡ gates h
    pub groups_are : length w.groups ≡ length (made h)
    pub readers_are : map (option_map entered_of) w.readers ≡ entries h
    pub kept : (r : ℕ) (v : RegistryValue WorldRule) → slice_get w.registries r ≡ Some v
        → IsRegistryAfter key_gives (key_at r h) (registry_events r h) v
    pub outs : (a : ℕ) (z : GateValue) → slice_get w.gates a ≡ Some z → z.out ≡ is_out a h
    pub each : (g : ℕ) (e : EntryValue C) → slice_get w.groups g ≡ Some e → EntryIs h g e
    pub on_site : (g : ℕ) (e : EntryValue C) → slice_get w.groups g ≡ Some e → OnSite w e
    pub own : (t : ℕ) (r : OpenReaderValue C) → slice_get w.readers t ≡ Some (Some r) → (e : EntryValue C)
        → slice_get w.groups r.group ≡ Some e → IsOwnReader e.core r.reader

  -- some history explains it
  pub record IsFounded (w : WorldValue C) : Type 0 where
    pub history : History C
    pub stands : Stands w history

  -- a group with its gate and its own registry, before a step
  pub record Before (h : History C) (g : ℕ) (e : EntryValue C) (z : GateValue) (v : RegistryValue WorldRule) : Type 0 where
    pub run : IsRun M h
    pub is : EntryIs h g e
    pub out : z.out ≡ is_out e.gate h
    pub kept : IsRegistryAfter key_gives (key_of g h) (registry_events e.registry h) v
    pub own : v.id ≡ e.core.registry

  -- a right step at a group: the group, its gate and its registry after it; the group's registry is the same one
  pub record EntryNext (h : History C) (g : ℕ) (st : Step C) (a : Answer) (e : EntryValue C) (z : GateValue) (e2 : EntryValue C)
      (z2 : GateValue) (v2 : RegistryValue WorldRule)
      : Type 0 where
    pub right : Answers M h st a
    pub is : EntryIs ((st, a) ∷ h) g e2
    pub registry_is : e2.registry ≡ e.registry
    pub gate_is : e2.gate ≡ e.gate
    pub origin_is : origin e2.core ≡ origin e.core
    pub out : z2 ≡ gate z.id (permit_after st a z.out)
    pub kept : IsRegistryAfter key_gives (key_of g h) (registry_events e.registry ((st, a) ∷ h)) v2
    pub one : e2.core.registry ≡ e.core.registry
    pub own : v2.id ≡ e2.core.registry

  -- what a call at an entry does, after each history and as each number
  abbrev pub Performs : (ℕ → Step C) → EntryValue C → GateValue → RegistryValue WorldRule → Answer → EntryValue C → GateValue
      → RegistryValue WorldRule → Type 0
  Performs st e z v a e2 z2 v2 = (h : History C) (g : ℕ) → Before h g e z v → EntryNext h g (st g) a e z e2 z2 v2

  -- the same, where the gate or the registry is not at hand and stays as it is
  abbrev pub PerformsAtGate : (ℕ → Step C) → EntryValue C → GateValue → Answer → EntryValue C → GateValue → Type 0
  PerformsAtGate st e z a e2 z2 = (v : RegistryValue WorldRule) → Performs st e z v a e2 z2 v

  abbrev pub PerformsAtRegistry : (ℕ → Step C) → EntryValue C → RegistryValue WorldRule → Answer → EntryValue C → RegistryValue WorldRule
      → Type 0
  PerformsAtRegistry st e v a e2 v2 = (z : GateValue) → Performs st e z v a e2 z v2

  abbrev pub PerformsAlone : (ℕ → Step C) → EntryValue C → Answer → EntryValue C → Type 0
  PerformsAlone st e a e2 = (z : GateValue) (v : RegistryValue WorldRule) → Performs st e z v a e2 z v

-- some history explains the entry
pub record IsEntry {C : Type 0} (M : Meaning C) (e : EntryValue C) : Type 0 where
  pub history : History C
  pub number : ℕ
  pub run : IsRun M history
  pub is : EntryIs history number e
