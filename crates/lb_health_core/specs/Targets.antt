-- Targets: for each health key of the memberships of views that are not removed, the first backend by view, then by the order
-- of the set. They are in the order of their identity, then of their view.
use Rattle.std.specs.Prelude.{ℕ, Bool, not, List, [], map, filter, fold}
use Rattle.std.specs.declared.cmp.Ordering.{Ordering}
use Rattle.std.specs.Ordering.{nat_cmp, on, then_cmp}
use Rattle.std.specs.List.{flat_map}
use Rattle.std.specs.BTreeMap.{insert_entry}
use Rattle.std.specs.Map.{values_of}
use Rattle.lb_select_base.specs.Backends.{Member, member_cmp, same_member}
use Rattle.lb_select_base.specs.Unique.{distinct}
use Rattle.lb_health_core.specs.declared.targets.TargetPlace.{TargetPlace}
use Rattle.lb_health_core.specs.declared.targets.View.{View}

-- a view as contracts see it: its number, whether its removal waits, its membership
pub record ViewValue : Type 0 where
  pub id : ℕ
  pub marked : Bool
  pub members : List Member

abbrev pub view_value : View → ViewValue
view_value v = record { id = v.id; marked = v.marked; members = v.members.keys }

-- the views whose removal doesn't wait
abbrev pub live : List ViewValue → List ViewValue
live views = filter (λ v. not v.marked) views

-- by identity, and then by view
abbrev pub place_cmp : TargetPlace → TargetPlace → Ordering
place_cmp = then_cmp (on (λ p. p.backend) member_cmp) (on (λ p. p.view) nat_cmp)

-- a backend of a view with its health key
pub record Candidate : Type 0 where
  pub place : TargetPlace
  pub key : Member

-- whether two candidates share a cell
abbrev pub same_key : Candidate → Candidate → Bool
same_key c d = same_member c.key d.key

module _ (key_of : Member → Member) where
  -- the backends of a view, in set order
  abbrev pub candidates_of : ℕ → List Member → List Candidate
  candidates_of view members = map (λ b. record { place = record { backend = b; view = view }; key = key_of b }) members

  -- the backends of all views, by view and then in set order
  abbrev pub candidates : List ViewValue → List Candidate
  candidates views = flat_map (λ v. candidates_of v.id v.members) views

-- each at its place in the order
abbrev pub in_order : List Candidate → List (TargetPlace × Member)
in_order cs = fold (λ sorted c. insert_entry place_cmp sorted c.place c.key) [] cs

module _ (key_of : Member → Member) where
  -- the targets with their keys
  abbrev pub targets_in : List ViewValue → List (TargetPlace × Member)
  targets_in views = in_order (distinct same_key (candidates key_of views))

  -- the keys of the targets, in target order
  abbrev pub target_keys : List ViewValue → List Member
  target_keys views = values_of (targets_in views)
