-- Candidates by least connections: what comes before what by the loads that were read, and the walk in that order.
use Rattle.std.specs.Prelude.{◌≡◌, ℕ, ◌*◌, ◌<◌, nat_lt, Bool, true, List, map, length, Some, Contains, count_by}
use Rattle.std.specs.List.{filter, slice_get}
use Rattle.std.specs.List.Sorted.{IsStrictlySortedBy}
use Rattle.std.specs.declared.cmp.Ordering.{Ordering}
use Rattle.std.specs.Ordering.{nat_cmp, ordering_then, is_lt}
use Rattle.lb_select_base.specs.Backends.{Member, member_cmp}
use Rattle.lb_select_base.specs.Draws.{Draw, load}

-- a backend and the load that was read for it: by the load for each unit of weight, then by identity
abbrev pub load_cmp : Member × ℕ → Member × ℕ → Ordering
load_cmp a b = ordering_then (nat_cmp (a.1 * b.0.weight) (b.1 * a.0.weight)) (member_cmp a.0 b.0)

-- a backend that takes part
abbrev pub weighs : Member → Bool
weighs m = nat_lt 0 m.weight

-- candidate k has exactly k others before it
abbrev pub IsLeastCandidate : List (Member × ℕ) → ℕ → Member → Type 0
IsLeastCandidate read k m =
    (l : ℕ) × Contains read (m, l) × (count_by (λ e. is_lt (load_cmp e (m, l))) read ≡ k)

-- a walk: the load of each backend of weight above 0 is read once, in the order of the set and before any candidate; the walk
-- ends after the last of them
pub record IsLeastWalk (ms : List Member) (draws : List Draw) (cs : List Member) (ended : Bool) : Type 0 where
  pub read : List (Member × ℕ)
  pub whole : map (λ e. e.0) read ≡ filter weighs ms
  pub drawn : draws ≡ map (λ e. load e.0 e.1) read
  pub candidates : (k : ℕ) (c : Member) → slice_get cs k ≡ Some c → IsLeastCandidate read k c
  pub end : ended ≡ true → length cs ≡ length read

-- it comes at one place
abbrev pub ComesOnce : List Member → Member → Type 0
ComesOnce cs m = (k : ℕ) × (slice_get cs k ≡ Some m) × ((j : ℕ) → slice_get cs j ≡ Some m → j ≡ k)

-- a walk gives each backend of weight above 0 once, and no other, and then ends
abbrev pub LeastVisitsAll : Type 0
LeastVisitsAll =
    (ms : List Member) → IsStrictlySortedBy member_cmp ms → (draws : List Draw) (cs : List Member) → IsLeastWalk ms draws cs true
    → (m : Member) → (Contains ms m → 0 < m.weight → ComesOnce cs m) × (Contains cs m → Contains ms m × (0 < m.weight))
