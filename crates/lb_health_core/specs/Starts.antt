-- Starts and cells. A start is a change of a registry at which a key is a target that was none just before; a key's cell is
-- its latest start. Changes are the lists of target keys that they leave, newest first, and starts are keys, newest first: so
-- the number of a start is how many come after it in the list.
use Rattle.std.specs.Prelude.{◌≡◌, ℕ, Bool, false, not, List, [], ◌∷◌, ◌++◌, length, filter, reverse, if◌then◌else◌, Option, Some, None}
use Rattle.std.specs.declared.cmp.Ordering.{Ordering}
use Rattle.std.specs.Ordering.{eq_by_cmp}
use Rattle.std.specs.BTreeMap.{is_at}
use Rattle.std.specs.List.{list_any}
use Rattle.std.specs.Map.{lookup}

module _ {K : Type 0} (same : K → K → Bool) where
  -- whether the last change left a target of this key
  abbrev pub is_target : List (List K) → K → Bool
  is_target [] k = false
  is_target (now ∷ earlier) k = list_any (same k) now

  -- at each change, in target order, the keys that were no targets just before
  abbrev pub starts : List (List K) → List K
  starts [] = []
  starts (now ∷ earlier) = reverse (filter (λ k. not (is_target earlier k)) now) ++ starts earlier

  -- the number of a key's latest start
  abbrev pub latest_start : List K → K → Option ℕ
  latest_start [] k = None
  latest_start (x ∷ earlier) k = if same k x then Some (length earlier) else latest_start earlier k

  -- the cell of a key that is a target
  abbrev pub cell_now : List (List K) → K → Option ℕ
  cell_now changes k = if is_target changes k then latest_start (starts changes) k else None

-- what the entries have at a key, where keys are compared by cmp
abbrev pub value_at : {K X : Type 0} → (K → K → Ordering) → List (K × X) → K → Option X
value_at cmp entries k = lookup (is_at (cmp k)) entries

-- the entries give each target's cell by its key, and next is the number of the next start
pub record IsNumbered {K : Type 0} (cmp : K → K → Ordering) (changes : List (List K)) (by_key : List (K × ℕ)) (next : ℕ) : Type 0 where
  pub given : next ≡ length (starts (eq_by_cmp cmp) changes)
  pub cells : (q : K) → value_at cmp by_key q ≡ cell_now (eq_by_cmp cmp) changes q
