-- The rule of a board: its words against the records of its passes. The newest generation is word 0, and what a slot serves the word
-- after its place.
use Rattle.std.specs.Prelude.{◌≡◌, ◌≤◌, ◌+◌, ℕ, max, Bool, true, false, List, [], length, map, replicate, slice_index, slice_set}
use mathlib.Core.Option.{some}
use lib.ListN.{get_elem?}
use Rattle.atomic_table.specs.Table.{Me}
use Rattle.lb_rebuild.specs.declared.board_rule.Record.{Record}

-- no served word is past the newest one
abbrev pub IsLed : List ℕ → Type 0
IsLed words = (i : ℕ) → slice_index words i ≤ slice_index words 0

-- a pass's values are not past the words, and those of the first pass, which alone may write, are the words
pub record Fits (words : List ℕ) (id : ℕ) (v : Record) : Type 0 where
  pub values : length v.values ≡ length words
  pub loads : length v.loads ≡ length words
  pub seen : (i : ℕ) → slice_index v.values i ≤ slice_index words i
  pub writer : v.writes ≡ true → (id ≡ 0) × (v.values ≡ words)

-- what holds of a board of so many slots between any two steps
pub record Kept (slots : ℕ) (words : List ℕ) (views : List Record) : Type 0 where
  pub count : length words ≡ slots + 1
  pub led : IsLed words
  pub each : (id : ℕ) (v : Record) → get_elem? views id ≡ some v → Fits words id v

-- the record of the pass that writes, when the board is made
abbrev pub first_record : ℕ → Record
first_record slots = record { values = replicate (slots + 1) 0; loads = replicate (slots + 1) 0; writes = true }

-- the record of a pass that has seen nothing
abbrev pub blank : Record → Record
blank v = record { values = map (λ (n : ℕ). 0) v.values; loads = map (λ (n : ℕ). 0) v.loads; writes = false }

-- after a load of the word i that found n
abbrev pub loaded : Record → ℕ → ℕ → Record
loaded v i n = record { values = slice_set v.values i n; loads = slice_set v.loads i (slice_index v.loads i + 1); writes = v.writes }

-- after the word i was raised to k, unless it was there already; the step is counted
abbrev pub raised : Record → ℕ → ℕ → Record
raised v i k =
    record {
      values = slice_set v.values i (max (slice_index v.values i) k);
      loads = slice_set v.loads i (slice_index v.loads i + 1);
      writes = v.writes;
    }

-- A load finds no less than the pass has seen, and the pass that writes finds what it wrote.
abbrev pub Loaded : {S : Type 0} → ℕ → Me S Record → ℕ → Me S Record → Type 0
Loaded i v n w =
    (w ≡ (loaded v.0 i n, [])) × (slice_index v.0.values i ≤ n) × (v.0.writes ≡ true → n ≡ slice_index v.0.values i)

abbrev pub Raised : {S : Type 0} → ℕ → ℕ → Me S Record → Me S Record → Type 0
Raised i k v w = w ≡ (raised v.0 i k, [])

-- A pass comes without having seen anything.
abbrev pub Came : {S : Type 0} → Me S Record → Me S Record → Type 0
Came v w = w ≡ (blank v.0, [])
