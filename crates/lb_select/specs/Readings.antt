-- What a walk by least connections keeps: for each backend of weight above 0 its index and the load that was read for it, in
-- the order of the candidates.
use Rattle.std.specs.Prelude.{◌≡◌, ℕ, ◌+◌, ◌*◌, ◌<◌, ◌≤◌, ◌==◌, Bool, true, List, [], ◌∷◌, map, length, take, Option, Some}
use Rattle.std.specs.Prelude.{MatchOption, count_by}
use Rattle.std.specs.List.{All, filter, slice_get, AllZip, AllByRecursion as Each}
use Rattle.std.specs.List.Sorted.{IsPermutation, IsSortedBy, IsStrictlySortedBy}
use Rattle.std.specs.declared.cmp.Ordering.{Ordering}
use Rattle.std.specs.Ordering.{nat_cmp, ordering_then, is_lt}
use Rattle.lb_select_base.specs.Backends.{Member, member_cmp}
use Rattle.lb_select_base.specs.Draws.{Draw, load}
use Rattle.lb_select.specs.LeastLoads.{weighs}
use Rattle.lb_select.specs.declared.reading.Reading.{Reading}

-- by the load for each unit of weight, then by the index
abbrev pub reading_cmp : Reading → Reading → Ordering
reading_cmp a b = ordering_then (nat_cmp (a.load * b.weight) (b.load * a.weight)) (nat_cmp a.index b.index)

-- it is this backend and the load that was read for it
pub record IsReading (ms : List Member) (e : Member × ℕ) (r : Reading) : Type 0 where
  pub at : slice_get ms r.index ≡ Some e.0
  pub weight : r.weight ≡ e.0.weight
  pub load : r.load ≡ e.1

-- what was read for the first backends of a set that weigh something, in its order
pub record AreRead (may_give : Draw → Type 0) (ms : List Member) (done : ℕ) (readings : List Reading) : Type 0 where
  pub read : List (Member × ℕ)
  pub whole : map (λ e. e.0) read ≡ filter weighs (take done ms)
  pub each : AllZip (IsReading ms) read readings
  pub drawn : Each (λ e. may_give (load e.0 e.1)) read
  pub once : (i : ℕ) → count_by (λ r. r.index == i) readings ≤ 1
  pub fresh : (i : ℕ) → done ≤ i → count_by (λ r. r.index == i) readings ≡ 0

-- the same for all backends of a set, in the order of the candidates
pub record IsArranged (may_give : Draw → Type 0) (ms : List Member) (order : List Reading) : Type 0 where
  pub ordered : IsStrictlySortedBy member_cmp ms
  pub readings : List Reading
  pub given : AreRead may_give ms (length ms) readings
  pub same : IsPermutation readings order
  pub sorted : IsSortedBy (λ a b. is_lt (reading_cmp a b)) order

-- each reading of an order is of a backend of the set
abbrev pub IsInside : List Member → List Reading → Type 0
IsInside ms order = All (λ r. r.index < length ms) order

-- what is left of a walk that is at a place of the order
pub record IsLeastRest
    (ms : List Member) (order : List Reading) (at : ℕ) (draws : List Draw) (cs : List Member) (ended : Bool) : Type 0 where
  pub undrawn : draws ≡ []
  pub candidates : (k : ℕ) (c : Member) → slice_get cs k ≡ Some c
      → (r : Reading) × (slice_get order (at + k) ≡ Some r) × (slice_get ms r.index ≡ Some c)
  pub end : ended ≡ true → length order ≤ at + length cs

-- one step, which draws nothing: the end for good, or a candidate
abbrev pub IsLeastStep : List Member → List Reading → ℕ → Option Member → ℕ → Type 0
IsLeastStep ms order at given next =
    MatchOption given (IsLeastRest ms order at [] [] true × IsLeastRest ms order next [] [] true)
    (λ b. (es : List Draw) (cs : List Member) (e : Bool) → IsLeastRest ms order next es cs e → IsLeastRest ms order at es (b ∷ cs) e)
