-- What a call did to the bytes that a reader has left or a writer holds, where those are known.
use Rattle.std.specs.Prelude.{◌≡◌, ℕ, List, [], ◌∷◌, ◌++◌, length, ⊤, Option, None, Some, Result, Ok, Err}
use Rattle.std.specs.Io.KnownBytes.{Appends}

-- P of the known bytes before a call and those after it; nothing is claimed of bytes that weren't known
abbrev pub OnBytes : Option (List ℕ) → Option (List ℕ) → (List ℕ → List ℕ → Type 0) → Type 0
OnBytes None new P = ⊤
OnBytes (Some stream) None P = ⊥
OnBytes (Some stream) (Some rest) P = P stream rest

-- what a call that asks for one byte did: it gave the first byte and left those after it, or gave none at
-- the end of the stream, or failed and left the stream as it was
abbrev pub GivesByte : {E : Type 0} → Result (Option ℕ) E → List ℕ → List ℕ → Type 0
GivesByte (Ok (Some b)) stream rest = stream ≡ b ∷ rest
GivesByte (Ok None) stream rest = (stream ≡ []) × (rest ≡ [])
GivesByte (Err e) stream rest = rest ≡ stream

-- the first n bytes of the stream were taken, and the rest is left
pub record Takes (n : ℕ) (stream rest : List ℕ) : Type 0 where
  pub front : List ℕ
  pub count : length front ≡ n
  pub is : stream ≡ front ++ rest

-- what a call that skips some bytes did: it took as many as it says, none only at the end of the stream; or it
-- failed and left the stream as it was
abbrev pub SkipsSome : {E : Type 0} → Result ℕ E → List ℕ → List ℕ → Type 0
SkipsSome (Ok n) stream rest = Takes n stream rest × (n ≡ 0 → rest ≡ [])
SkipsSome (Err e) stream rest = rest ≡ stream

-- the known bytes of a writer grew by some bytes at the front of `bytes`, perhaps by none or by all
abbrev pub AppendsFront : Option (List ℕ) → Option (List ℕ) → List ℕ → Type 0
AppendsFront old new bytes =
    (front : List ℕ) × (rest : List ℕ) × (bytes ≡ front ++ rest) × Appends old new front
