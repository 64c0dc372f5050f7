-- A change of a table on its way: the cells of the keys that start are stored, and the numbering isn't exchanged yet.
use Rattle.std.specs.Prelude.{◌≡◌, ◌≤◌, ◌<◌, ℕ, ◌==◌, ◌||◌, Bool, true, false, List, [], ◌∷◌, Option, Some, None}
use Rattle.std.specs.declared.cmp.Ordering.{Ordering}
use Rattle.std.specs.Ordering.{eq_by_cmp, nat_cmp}
use Rattle.std.specs.List.{list_any}
use Rattle.std.specs.Option.{IsSomeAnd}
use Rattle.std.proofs.Common.{Bor}
use Rattle.lb_health_core.specs.declared.table.Cell.{Cell}
use Rattle.lb_health_core.specs.CellEvents.{CellEvent, Hold, changes, verdicts_of, holds_after, configured, given_after, start_of}
use Rattle.lb_health_core.specs.Starts.{cell_now, value_at, IsNumbered}
use Rattle.lb_health_core.specs.Table.{TableValue, IsTableAfter}
use Rattle.lb_health_core.specs.Verdicts.{IsHealthAfter}

-- the cells from this number on that targets have are stored, as they began
abbrev pub AreStored : {K : Type 0} → (K → K → Ordering) → ℕ → Bool → List (List K) → List (ℕ × Cell K) → Type 0
AreStored {K} cmp first start all cells =
    (k : K) (c : ℕ) → cell_now (eq_by_cmp cmp) all k ≡ Some c → first ≤ c
    → IsSomeAnd (value_at nat_cmp cells c) (λ x. (eq_by_cmp cmp k x.key ≡ true) × IsHealthAfter start [] x.health)

-- whether it is this number
abbrev pub is_cell : ℕ → Option ℕ → Bool
is_cell c None = false
is_cell c (Some d) = d == c

-- whether a stored cell is kept: the target of its key has it, or a live snapshot
abbrev pub keeps_cell : {K : Type 0} → (K → K → Ordering) → List (K × ℕ) → List Hold → ℕ → K → Bool
keeps_cell cmp by_key held c k = is_cell c (value_at cmp by_key k) || list_any (λ h. list_any (eq_by_cmp nat_cmp c) h.cells) held

-- the keys that the last change left
abbrev pub last_keys : {K : Type 0} → List (List K) → List K
last_keys [] = []
last_keys (now ∷ earlier) = now

-- the keys that a change leaves: those that are given, and where none are, those that are left
abbrev pub left_of : {K : Type 0} → Option (Bor (List K)) → List (CellEvent K) → List K
left_of None events = last_keys (changes events)
left_of (Some given) events = given.now

-- later is these events and further changes
pub record Extends {K : Type 0} (cmp : K → K → Ordering) (events later : List (CellEvent K)) : Type 0 where
  pub verdicts : (c : ℕ) → verdicts_of c later ≡ verdicts_of c events
  pub holds : holds_after later ≡ holds_after events
  pub start : configured later ≡ configured events
  pub grows : given_after (eq_by_cmp cmp) events ≤ given_after (eq_by_cmp cmp) later
  -- a cell that was given before is of a key that had it before
  pub old :
      (k : K) (c : ℕ) → cell_now (eq_by_cmp cmp) (changes later) k ≡ Some c → c < given_after (eq_by_cmp cmp) events
      → cell_now (eq_by_cmp cmp) (changes events) k ≡ Some c
  -- cells begin as configured
  pub begun : (c : ℕ) → c < given_after (eq_by_cmp cmp) events → start_of (eq_by_cmp cmp) c later ≡ start_of (eq_by_cmp cmp) c events
  pub begins :
      (c : ℕ) → given_after (eq_by_cmp cmp) events ≤ c → c < given_after (eq_by_cmp cmp) later
      → start_of (eq_by_cmp cmp) c later ≡ configured events

-- the table is after events still, and has the cells for the numbering after later
pub record IsStarted {K : Type 0} (cmp : K → K → Ordering) (events later : List (CellEvent K)) (t : TableValue K)
    (by_key : List (K × ℕ)) (next : ℕ) : Type 0 where
  pub extends : Extends cmp events later
  pub table : IsTableAfter cmp events t
  pub numbering : IsNumbered cmp (changes later) by_key next
  pub stored : AreStored cmp (given_after (eq_by_cmp cmp) events) t.start (changes later) t.cells
