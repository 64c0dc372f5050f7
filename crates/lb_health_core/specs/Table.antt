-- The table of cells, and what it is after a history. Each cell that is kept is stored, and is right; of a cell that is
-- stored and not kept, as a change that was refused may leave one, nothing is said, and nobody can see it.
use Rattle.std.specs.Prelude.{◌≡◌, ◌≤◌, ℕ, Bool, true, false, List, [], map, Some, IsSome}
use Rattle.std.specs.declared.cmp.Ordering.{Ordering}
use Rattle.std.specs.Ordering.{eq_by_cmp, nat_cmp}
use Rattle.std.specs.Option.{IsSomeAnd}
use Rattle.lb_health_core.specs.declared.table.Cell.{Cell}
use Rattle.lb_health_core.specs.declared.table.Held.{Held}
use Rattle.lb_health_core.specs.declared.table.CellTable.{CellTable}
use Rattle.lb_health_core.specs.CellEvents.{CellEvent, Hold, changes, verdicts_of, holds_after, configured}
use Rattle.lb_health_core.specs.CellEvents.{is_held, given_after, start_of, IsKept}
use Rattle.lb_health_core.specs.Starts.{cell_now, value_at, IsNumbered}
use Rattle.lb_health_core.specs.Verdicts.{IsHealthAfter}

-- what contracts see of a table: plain lists
pub record TableValue (K : Type 0) : Type 0 where
  -- the cell of each target, by its key, in the order of the keys
  pub by_key : List (K × ℕ)
  -- the number of the next cell
  pub next : ℕ
  -- what is stored of each cell, by its number
  pub cells : List (ℕ × Cell K)
  -- the live snapshots, oldest first
  pub held : List Hold
  -- whether cells begin healthy
  pub start : Bool

-- a live snapshot as contracts see it
abbrev pub hold_of : Held → Hold
hold_of h = record { view = h.view; generation = h.generation; cells = h.cells.keys }

-- the table as contracts see it
abbrev pub table_value : {K : Type 0} → CellTable K → TableValue K
table_value t =
    record {
      by_key = t.numbering.by_key.entries;
      next = t.numbering.next;
      cells = t.cells;
      held = map hold_of t.held.items;
      start = t.start;
    }

-- the table after these events
pub record IsTableAfter {K : Type 0} (cmp : K → K → Ordering) (events : List (CellEvent K)) (t : TableValue K) : Type 0 where
  pub numbering : IsNumbered cmp (changes events) t.by_key t.next
  pub start : t.start ≡ configured events
  pub holds : t.held ≡ holds_after events
  -- a target's cell is stored with its key
  pub targets :
      (k : K) (c : ℕ) → cell_now (eq_by_cmp cmp) (changes events) k ≡ Some c
      → IsSomeAnd (value_at nat_cmp t.cells c) (λ x. eq_by_cmp cmp k x.key ≡ true)
  -- a cell that is kept is stored, with its health
  pub kept :
      (c : ℕ) → IsKept cmp events c
      → IsSomeAnd (value_at nat_cmp t.cells c) (λ x. IsHealthAfter (start_of (eq_by_cmp cmp) c events) (verdicts_of c events) x.health)
  -- a number that wasn't given yet has no verdict and is held by no snapshot
  pub ungiven : (c : ℕ) → given_after (eq_by_cmp cmp) events ≤ c → (verdicts_of c events ≡ []) × (is_held c events ≡ false)

-- only cells that are kept are stored
abbrev pub IsPruned : {K : Type 0} → (K → K → Ordering) → List (CellEvent K) → TableValue K → Type 0
IsPruned cmp events t = (c : ℕ) → IsSome (value_at nat_cmp t.cells c) → IsKept cmp events c
