-- What contracts see of a board and of a pass over it, and what one load does to a pass.
use Rattle.std.specs.Prelude.{◌≡◌, ◌≢◌, ◌≤◌, ◌<◌, ◌+◌, ℕ, max, Bool, MatchBool, List, [], ◌∷◌, slice_index, slice_set}
use Rattle.std.specs.Prelude.{Option, IfNone, IfSome}
use Rattle.std.specs.Coded.{Coded}
use Rattle.atomic_table.specs.Seated.{TableId, table_id_coded}

-- Which board it is: no two boards have the same one. Clauses compare it and look at nothing inside but `words`, how many words it has.
abbrev pub BoardId : Type 0
BoardId = TableId

abbrev pub board_id_coded : Coded BoardId
board_id_coded = table_id_coded

-- A pass: of which board, and for each word the greatest number seen and how many loads were made, the newest generation's word first.
pub record PassValue : Type 0 where
  pub board : BoardId
  pub values : List ℕ
  pub loads : List ℕ

-- The pass that writes: of which board, what its words are, the newest generation's first, and how many steps it has made.
pub record WriterValue : Type 0 where
  pub board : BoardId
  pub words : List ℕ
  pub steps : ℕ

-- the sum of numbers
abbrev pub total : List ℕ → ℕ
total [] = 0
total (n ∷ ns) = n + total ns

-- the words after one was raised to a generation, unless it was there already
abbrev pub raised_words : List ℕ → ℕ → ℕ → List ℕ
raised_words words i g = slice_set words i (max (slice_index words i) g)

-- the newest generation that the pass has seen
abbrev pub newest_of : PassValue → ℕ
newest_of p = slice_index p.values 0

-- the generation that the pass has last seen a slot serve
abbrev pub served_of : PassValue → ℕ → ℕ
served_of p slot = slice_index p.values (slot + 1)

-- exactly one load was made, of the word i, which found n
pub record IsLoad (p : PassValue) (i n : ℕ) (q : PassValue) : Type 0 where
  pub board : q.board ≡ p.board
  pub value : slice_index q.values i ≡ n
  pub rises : slice_index p.values i ≤ n
  pub count : slice_index q.loads i ≡ slice_index p.loads i + 1
  pub others : (j : ℕ) → j ≢ i → (slice_index q.values j ≡ slice_index p.values j) × (slice_index q.loads j ≡ slice_index p.loads j)

-- the same pass later: no value has fallen, and no load is forgotten
pub record IsLater (p q : PassValue) : Type 0 where
  pub board : q.board ≡ p.board
  pub values : (i : ℕ) → slice_index p.values i ≤ slice_index q.values i
  pub loads : (i : ℕ) → slice_index p.loads i ≤ slice_index q.loads i

-- the pass has seen each slot serve the generation g or a later one
abbrev pub AreServed : BoardId → PassValue → ℕ → Type 0
AreServed board p g = (slot : ℕ) → slot + 1 < board.words → g ≤ served_of p slot

-- between p and q some slot was seen to serve an earlier generation than g
abbrev pub HasSeenBelow : BoardId → PassValue → PassValue → ℕ → Type 0
HasSeenBelow board p q g =
    (slot : ℕ) × (slot + 1 < board.words) × (served_of q slot < g) × (slice_index p.loads (slot + 1) < slice_index q.loads (slot + 1))

-- the pass q has seen of each word at least what p had
abbrev pub HasMet : BoardId → PassValue → PassValue → Type 0
HasMet board p q = (i : ℕ) → i < board.words → slice_index p.values i ≤ slice_index q.values i

-- A pass over a board was p, answered which generation a slot serves, if there is such a slot, and is q.
pub record IsServedSeen (board : BoardId) (slot : ℕ) (p : PassValue) (answer : Option ℕ) (q : PassValue) : Type 0 where
  -- its word was loaded once
  pub some : IfSome answer (λ g. (slot + 1 < board.words) × IsLoad p (slot + 1) g q)
  -- no such slot is there, and nothing was loaded
  pub none : IfNone answer ((board.words ≤ slot + 1) × (q ≡ p))

-- A pass over a board was p, answered whether each slot serves the generation g or a later one, and is q.
pub record IsReadinessSeen (board : BoardId) (g : ℕ) (p : PassValue) (ready : Bool) (q : PassValue) : Type 0 where
  -- each slot was seen to serve it, or some slot was seen to serve an earlier one
  pub answer : MatchBool ready (AreServed board q g) (HasSeenBelow board p q g)
  -- no value has fallen, and no load is forgotten
  pub later : IsLater p q

-- Two passes over a board met: they were p and o, and are q and t.
pub record HaveMet (board : BoardId) (p o q t : PassValue) : Type 0 where
  -- each has seen of every word at least what the other had
  pub pass : HasMet board o q
  pub other : HasMet board p t
  -- no value has fallen in either, and no load is forgotten
  pub later : IsLater p q
  pub other_later : IsLater o t
