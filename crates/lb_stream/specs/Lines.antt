-- The lines of a text: each ends with a line feed, which is no part of it, and a last line that isn't empty may lack it.
use Rattle.std.specs.Prelude.{◌≡◌, ◌≢◌, ℕ, ◌<◌, ◌≤◌, List, [], ◌∷◌, ◌++◌, ◌==◌, if◌then◌else◌, length, ⊤}
use Rattle.lb_stream.specs.declared.lines.LineRead.{LineRead}
use Rattle.lb_stream.specs.declared.lines.LineRead.TheVariants.{Line, LastLine, End, TooLong, ReadFailed, WriteFailed, NoMemory}

-- x at the front of the first line; a line of its own where there is none
abbrev pub onto : ℕ → List (List ℕ) → List (List ℕ)
onto x [] = (x ∷ []) ∷ []
onto x (line ∷ lines) = (x ∷ line) ∷ lines

-- all lines of a text, without their line feeds
abbrev pub lines_of : List ℕ → List (List ℕ)
lines_of [] = []
lines_of (x ∷ xs) = if x == 10 then [] ∷ lines_of xs else onto x (lines_of xs)

-- x at the front of the first line; nothing where there is none
abbrev pub into_first : ℕ → List (List ℕ) → List (List ℕ)
into_first x [] = []
into_first x (line ∷ lines) = (x ∷ line) ∷ lines

-- the whole lines of a text, those that have their line feeds
abbrev pub whole_lines : List ℕ → List (List ℕ)
whole_lines [] = []
whole_lines (x ∷ xs) = if x == 10 then [] ∷ whole_lines xs else into_first x (whole_lines xs)

-- the bytes before the first line feed; all of them where there is none
abbrev pub first_line : List ℕ → List ℕ
first_line [] = []
first_line (x ∷ xs) = if x == 10 then [] else x ∷ first_line xs

-- some bytes without a line feed
abbrev pub HasNoFeed : List ℕ → Type 0
HasNoFeed bytes = first_line bytes ≡ bytes

-- a line that isn't too long
pub record IsLine (line : List ℕ) : Type 0 where
  pub no_feed : HasNoFeed line
  pub short : length line ≤ 16777216

-- what a call that asks for a line did to the stream, by what it found. Memory ran out only where the line has a byte. Where a
-- read failed, the bytes of the line that were read before are no whole line. Where a write failed, nothing is said of the stream.
abbrev pub Finds : LineRead → List ℕ → List ℕ → List ℕ → Type 0
Finds Line line stream rest = IsLine line × (stream ≡ line ++ 10 ∷ rest)
Finds LastLine line stream rest = IsLine line × (line ≢ []) × (stream ≡ line)
Finds End line stream rest = stream ≡ []
Finds TooLong line stream rest = 16777216 < length (first_line stream)
Finds NoMemory line stream rest = first_line stream ≢ []
Finds ReadFailed line stream rest = HasNoFeed line × (stream ≡ line ++ rest)
Finds WriteFailed line stream rest = ⊤
