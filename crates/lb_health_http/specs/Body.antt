-- The body of an answer, by its framing, and what comes in the place of one.
use Rattle.std.specs.Prelude.{◌≡◌, ℕ, ◌<◌, ◌≤◌, List, [], ◌++◌, length, ⊤, Result, Ok, Err}
use Rattle.lb_stream.specs.Stream.{Takes}
use Rattle.lb_health_core.specs.declared.error.CheckError.{CheckError}
use Rattle.lb_health_core.specs.declared.error.CheckError.TheVariants.{BadFraming, EndInMessage, BodyTooLarge, Read, OutOfMemory}
use Rattle.lb_health_http.specs.declared.framing.Framing.{Framing}
use Rattle.lb_health_http.specs.declared.framing.Framing.TheVariants.{Nothing, Sized, Chunked, ToEnd}
use Rattle.lb_health_http.specs.Chunked.{HasChunked, IsChunkedFault}

-- what follows the head begins with a body of that size, and then the rest
abbrev pub HasBody : Framing → List ℕ → ℕ → List ℕ → Type 0
HasBody Nothing after size rest = (size ≡ 0) × (after ≡ rest)
HasBody (Sized n) after size rest = (size ≡ n) × Takes n after rest
HasBody Chunked after size rest = HasChunked after size rest
HasBody ToEnd after size rest = (size ≡ length after) × (rest ≡ [])

-- there is no body
abbrev pub HasNoBody : Framing → List ℕ → Type 0
HasNoBody f after = (size : ℕ) (rest : List ℕ) → ¬ (HasBody f after size rest)

-- after some front no bytes can follow that make a body
abbrev pub NeverHasBody : Framing → List ℕ → Type 0
NeverHasBody f after =
    (front : List ℕ) × (tail : List ℕ) × (after ≡ front ++ tail) × ((more : List ℕ) → HasNoBody f (front ++ more))

-- the body is, or its length names, more bytes than the limit, and the rest is left: all of a body whose length is stated, and
-- in chunks what follows the line of the chunk that passes the limit
abbrev pub IsLarge : ℕ → Framing → List ℕ → List ℕ → Type 0
IsLarge limit Nothing after rest = ⊥
IsLarge limit (Sized n) after rest = (limit < n) × (rest ≡ after)
IsLarge limit Chunked after rest = IsChunkedFault BodyTooLarge limit after rest
IsLarge limit ToEnd after rest = limit < length after

-- the bytes end in the body, whose stated length is within the limit: where in chunks, as `IsChunkedFault` says
abbrev pub IsCut : ℕ → Framing → List ℕ → List ℕ → Type 0
IsCut limit (Sized n) after rest = n ≤ limit
IsCut limit Chunked after rest = IsChunkedFault EndInMessage limit after rest
IsCut limit f after rest = ⊥

-- what comes there is no body in chunks: where, as `IsChunkedFault` says
abbrev pub IsMisframed : ℕ → Framing → List ℕ → List ℕ → Type 0
IsMisframed limit Chunked after rest = IsChunkedFault BadFraming limit after rest
IsMisframed limit f after rest = ⊥

-- what reading a body does to the stream
abbrev pub BodyOutcome : ℕ → Framing → Result Unit CheckError → List ℕ → List ℕ → Type 0
BodyOutcome limit f (Ok _) after rest = (size : ℕ) × (size ≤ limit) × HasBody f after size rest
BodyOutcome limit f (Err EndInMessage) after rest = (rest ≡ []) × HasNoBody f after × IsCut limit f after rest
BodyOutcome limit f (Err BodyTooLarge) after rest = IsLarge limit f after rest
BodyOutcome limit f (Err BadFraming) after rest = NeverHasBody f after × IsMisframed limit f after rest
BodyOutcome limit f (Err Read) after rest = ⊤
BodyOutcome limit f (Err OutOfMemory) after rest = ⊤
BodyOutcome limit f (Err e) after rest = ⊥
