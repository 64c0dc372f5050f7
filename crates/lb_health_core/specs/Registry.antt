-- What contracts see of a registry and of a membership's own cells, and what a registry is after a history.
use Rattle.std.specs.Prelude.{◌≡◌, ◌⊎◌, ◌<◌, ◌^◌, ℕ, List, Option, Result, Err, true, IsSome}
use Rattle.std.specs.List.{filter_map, list_any}
use Rattle.std.specs.Option.{option_map}
use Rattle.lb_select_base.specs.Backends.{Member, member_cmp, same_member}
use Rattle.lb_select_base.specs.declared.refusal.Refusal.{Refusal}
use Rattle.lb_select_base.specs.declared.refusal.Refusal.TheVariants.{NoSuch, OutOfMemory, NumbersExhausted}
use Rattle.lb_health_core.specs.declared.targets.TargetPlace.{TargetPlace}
use Rattle.lb_health_core.specs.declared.targets.Target.{Target}
use Rattle.lb_health_core.specs.Keys.{IsRuleOf}
use Rattle.lb_health_core.specs.RegistryEvents.{Event, AreSets, views_after, registered_after, cell_events}
use Rattle.lb_health_core.specs.RegistryEvents.{changes_after, cells_given, cell_health}
use Rattle.lb_health_core.specs.Starts.{cell_now}
use Rattle.lb_health_core.specs.Table.{TableValue, IsTableAfter, IsPruned}
use Rattle.lb_health_core.specs.Targets.{ViewValue, targets_in}
use Rattle.std.specs.Map.{lookup}

-- What contracts see of a registry: plain lists, its rule, and which one it is. Of that nothing else is known than that no call changes
-- it, so no two registries can be shown to be the same one.
pub record RegistryValue (R : Type 0) : Type 0 where
  pub id : ℕ
  pub rule : R
  pub views : List ViewValue
  -- how many views were registered
  pub registered : ℕ
  pub table : TableValue Member

-- views and table after these events, whose memberships were sets and for whose cells there were numbers; no cell is stored but
-- those that are kept
pub record IsStateAfter (key_of : Member → Member) (events : List Event) (views : List ViewValue) (table : TableValue Member) : Type 0 where
  pub sets : AreSets events
  pub fits : cells_given key_of events < 2 ^ 64
  pub listed : views ≡ views_after events
  pub cells : IsTableAfter member_cmp (cell_events key_of events) table
  pub pruned : IsPruned member_cmp (cell_events key_of events) table

-- the registry after these events, where its rule, which may give these keys, is the function key_of
pub record IsRegistryAfter {R : Type 0} (gives : R → Member → Member → Type 0) (key_of : Member → Member) (events : List Event)
    (r : RegistryValue R) : Type 0 where
  pub rule : IsRuleOf gives r.rule key_of
  pub registered : r.registered ≡ registered_after events
  pub state : IsStateAfter key_of events r.views r.table

module _ {R : Type 0} (gives : R → Member → Member → Type 0) where
  -- whatever history explains a registry, by whatever function its rule is, this holds of both
  abbrev pub HoldsOf : RegistryValue R → ((Member → Member) → List Event → Type 0) → Type 0
  HoldsOf r Holds = (key_of : Member → Member) (events : List Event) → IsRegistryAfter gives key_of events r → Holds key_of events

  -- each history of the first, grown like this, is one of the second
  abbrev pub Grows : RegistryValue R → (List Event → List Event) → RegistryValue R → Type 0
  Grows before grow after = HoldsOf before (λ key_of events. IsRegistryAfter gives key_of (grow events) after)

  -- each history of the first is one of the second
  abbrev pub KeepsHistory : RegistryValue R → RegistryValue R → Type 0
  KeepsHistory before after = Grows before (λ events. events) after

module _ (key_of : Member → Member) (events : List Event) where
  -- a target with its cell and its health
  abbrev pub target_at : TargetPlace × Member → Option Target
  target_at entry =
      option_map (λ c. record { backend = entry.0.backend; cell = c; healthy = cell_health key_of c events })
      (cell_now same_member (changes_after key_of events) entry.1)

  -- the targets, in order
  abbrev pub targets_after : List Target
  targets_after = filter_map target_at (targets_in key_of (views_after events))

-- a call that may be refused for memory, or because no number is left
abbrev pub IsGrowthRefusal : {A : Type 0} → Result A Refusal → Type 0
IsGrowthRefusal r = (r ≡ Err OutOfMemory) ⊎ (r ≡ Err NumbersExhausted)

-- the same, or because no such view is there
abbrev pub IsUpdateRefusal : {A : Type 0} → Result A Refusal → Type 0
IsUpdateRefusal r = (r ≡ Err OutOfMemory) ⊎ ((r ≡ Err NumbersExhausted) ⊎ (r ≡ Err NoSuch))

-- each backend that has a cell is a member, by identity
abbrev pub HasOwnCells : List Member → List (Member × ℕ) → Type 0
HasOwnCells members cells = (b : Member) → IsSome (lookup (same_member b) cells) → list_any (same_member b) members ≡ true
