-- What happens to the cells of a registry, as a history of events that begins with the newest.
use Rattle.std.specs.Prelude.{◌≡◌, ◌⊎◌, ℕ, Bool, true, not, ◌==◌, ◌&&◌, nat_lt, List, [], ◌∷◌, ◌++◌, length, filter, if◌then◌else◌, Some}
use Rattle.std.specs.declared.cmp.Ordering.{Ordering}
use Rattle.std.specs.Ordering.{eq_by_cmp, nat_cmp}
use Rattle.std.specs.List.{list_any}
use Rattle.lb_health_core.specs.Starts.{starts, cell_now}
use Rattle.lb_health_core.specs.Verdicts.{Verdict, health_after}

pub data CellEvent (K : Type 0) : Type 0 where
  -- a change leaves targets of these keys, in target order
  Changed : List K → CellEvent K
  -- a verdict reaches a cell
  Observed : ℕ → Verdict → CellEvent K
  -- a snapshot begins to live: its view, its generation, its cells
  Held : ℕ → ℕ → List ℕ → CellEvent K
  -- a snapshot's life ends
  Released : ℕ → ℕ → CellEvent K
  -- cells that start from now on begin healthy, or not
  Configured : Bool → CellEvent K

-- a live snapshot and its cells
pub record Hold : Type 0 where
  pub view : ℕ
  pub generation : ℕ
  pub cells : List ℕ

-- whether it is of this view and generation
abbrev pub is_hold_of : ℕ → ℕ → Hold → Bool
is_hold_of view generation h = h.view == view && h.generation == generation

module _ {K : Type 0} where
  abbrev pub changes : List (CellEvent K) → List (List K)
  changes [] = []
  changes (Changed keys ∷ earlier) = keys ∷ changes earlier
  changes (Observed c v ∷ earlier) = changes earlier
  changes (Held view generation cells ∷ earlier) = changes earlier
  changes (Released view generation ∷ earlier) = changes earlier
  changes (Configured healthy ∷ earlier) = changes earlier

  -- the verdicts that reached a cell
  abbrev pub verdicts_of : ℕ → List (CellEvent K) → List Verdict
  verdicts_of c [] = []
  verdicts_of c (Changed keys ∷ earlier) = verdicts_of c earlier
  verdicts_of c (Observed d v ∷ earlier) = if d == c then v ∷ verdicts_of c earlier else verdicts_of c earlier
  verdicts_of c (Held view generation cells ∷ earlier) = verdicts_of c earlier
  verdicts_of c (Released view generation ∷ earlier) = verdicts_of c earlier
  verdicts_of c (Configured healthy ∷ earlier) = verdicts_of c earlier

  -- the live snapshots
  abbrev pub holds_after : List (CellEvent K) → List Hold
  holds_after [] = []
  holds_after (Changed keys ∷ earlier) = holds_after earlier
  holds_after (Observed c v ∷ earlier) = holds_after earlier
  holds_after (Held view generation cells ∷ earlier) =
      holds_after earlier ++ record { view = view; generation = generation; cells = cells } ∷ []
  holds_after (Released view generation ∷ earlier) = filter (λ h. not (is_hold_of view generation h)) (holds_after earlier)
  holds_after (Configured healthy ∷ earlier) = holds_after earlier

  -- whether cells begin healthy, as it was configured last
  abbrev pub configured : List (CellEvent K) → Bool
  configured [] = true
  configured (Changed keys ∷ earlier) = configured earlier
  configured (Observed c v ∷ earlier) = configured earlier
  configured (Held view generation cells ∷ earlier) = configured earlier
  configured (Released view generation ∷ earlier) = configured earlier
  configured (Configured healthy ∷ earlier) = healthy

  -- whether a live snapshot has the cell
  abbrev pub is_held : ℕ → List (CellEvent K) → Bool
  is_held c events = list_any (λ h. list_any (eq_by_cmp nat_cmp c) h.cells) (holds_after events)

  module _ (same : K → K → Bool) where
    -- how many numbers of cells were given
    abbrev pub given_after : List (CellEvent K) → ℕ
    given_after events = length (starts same (changes events))

    -- the health with which a cell began: the one configured when its number was given
    abbrev pub start_of : ℕ → List (CellEvent K) → Bool
    start_of c [] = true
    start_of c (Changed keys ∷ earlier) = if nat_lt c (given_after earlier) then start_of c earlier else configured earlier
    start_of c (Observed d v ∷ earlier) = start_of c earlier
    start_of c (Held view generation cells ∷ earlier) = start_of c earlier
    start_of c (Released view generation ∷ earlier) = start_of c earlier
    start_of c (Configured healthy ∷ earlier) = start_of c earlier

    -- the health of a cell
    abbrev pub health_of : ℕ → List (CellEvent K) → Bool
    health_of c events = health_after (start_of c events) (verdicts_of c events)

-- a cell is kept while its key is a target with that cell, or a live snapshot has it
abbrev pub IsKept : {K : Type 0} → (K → K → Ordering) → List (CellEvent K) → ℕ → Type 0
IsKept {K} cmp events c = ((k : K) × (cell_now (eq_by_cmp cmp) (changes events) k ≡ Some c)) ⊎ (is_held c events ≡ true)
