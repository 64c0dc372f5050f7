-- The head of an answer as a check takes it: one that the grammar of `httparse` reads, with a status of at least 100, at
-- most 64 fields and at most 65536 bytes.
use Rattle.std.specs.Prelude.{◌≡◌, ℕ, ◌<◌, ◌≤◌, ◌+◌, ◌⊎◌, List, [], ◌∷◌, ◌++◌, length, ⊤, Result, Ok, Err}
use Rattle.httparse.specs.Grammar.{LineEnd, print_blank, ResponseHead, ReadsResponse, HasNoResponse, NeverHasResponse, MayBecomeResponse}
use Rattle.httparse.specs.Grammar.{print_response, status_code}
use Rattle.httparse.specs.Spans.{IsResponseWithin, IsResponseAt, ResponseOverflows, ResponseExceeds}
use Rattle.lb_health_core.specs.declared.error.CheckError.{CheckError}
use Rattle.lb_health_core.specs.declared.error.CheckError.TheVariants.{BadHead, HeadTooLarge, EndInMessage, Read, OutOfMemory}
use Rattle.lb_health_http.specs.declared.head.HeadParts.{HeadParts}
use Rattle.lb_health_http.specs.declared.head.Head.{Head}
use Rattle.lb_health_http.specs.declared.head.Seen.{Seen}
use Rattle.lb_health_http.specs.declared.head.Seen.TheVariants.{Whole, Open, Bad}

-- what is asked of a head apart from the grammar
pub record IsFitHead (h : ResponseHead) : Type 0 where
  pub status : 100 ≤ status_code h
  pub fields : length h.fields ≤ 64
  pub size : length (print_response h) ≤ 65536

-- the stream is that head and then the rest
pub record BeginsWithHead (stream : List ℕ) (h : ResponseHead) (rest : List ℕ) : Type 0 where
  pub reads : ReadsResponse stream h rest
  pub fit : IsFitHead h

-- some bytes can follow that make a head of at most 64 fields
abbrev pub MayBecomeHead : List ℕ → Type 0
MayBecomeHead bytes = (more : List ℕ) × (h : ResponseHead) × ReadsResponse (bytes ++ more) h [] × (length h.fields ≤ 64)

-- the bytes are a head and then the beginning of a 65th field or of more, and each head that begins them has more than 64
pub record HasManyFields (bytes : List ℕ) : Type 0 where
  pub exceeds : ResponseExceeds 64 bytes
  pub overflows : ResponseOverflows 64 bytes

-- the bytes are a whole head, whose status is below 100
abbrev pub IsLowHead : List ℕ → Type 0
IsLowHead bytes = (h : ResponseHead) × ReadsResponse bytes h [] × (status_code h < 100)

-- no bytes can follow that make a head, or there are too many fields, or the head is whole and its status is too low
abbrev pub IsRefusedHead : List ℕ → Type 0
IsRefusedHead bytes = NeverHasResponse bytes ⊎ (HasManyFields bytes ⊎ IsLowHead bytes)

-- at each line feed of the text bytes can follow that make a head of at most 64 fields of what came up to there
abbrev pub IsOpenAtFeeds : List ℕ → Type 0
IsOpenAtFeeds text = (line rest : List ℕ) → text ≡ (line ++ 10 ∷ []) ++ rest → MayBecomeHead (line ++ 10 ∷ [])

-- within the limit the stream has a line feed at which what came up to there is refused, as it is at none before; the rest
-- is what follows it
pub record HasBadHead (stream rest : List ℕ) : Type 0 where
  pub line : List ℕ
  pub is : stream ≡ (line ++ 10 ∷ []) ++ rest
  pub within : length line < 65536
  pub may_go_on : IsOpenAtFeeds line
  pub refused : IsRefusedHead (line ++ 10 ∷ [])

-- the first 65536 bytes of the stream hold no whole head and are refused at no line feed; the rest is what follows them
pub record HasLargeHead (stream rest : List ℕ) : Type 0 where
  pub front : List ℕ
  pub is : stream ≡ front ++ rest
  pub count : length front ≡ 65536
  pub none : HasNoResponse front
  pub may_go_on : IsOpenAtFeeds front

-- the whole stream is shorter than that, holds no whole head and is refused at no line feed
pub record EndsInHead (stream : List ℕ) : Type 0 where
  pub within : length stream < 65536
  pub none : HasNoResponse stream
  pub may_go_on : IsOpenAtFeeds stream

-- ---- what the calls below answer

-- the spans are those of the head h, at the front of the bytes
pub record HasParts (bytes : List ℕ) (p : HeadParts) (h : ResponseHead) : Type 0 where
  pub within : IsResponseWithin bytes p.fields p.found
  pub at : IsResponseAt bytes p.fields p.found h
  pub room : length h.fields ≤ 64

-- what a look at bytes that end in a line feed answers
abbrev pub Sees : List ℕ → Seen → Type 0
Sees bytes (Whole p) = (h : ResponseHead) × HasParts bytes p h
Sees bytes Open = HasNoResponse bytes × MayBecomeResponse bytes
Sees bytes Bad = NeverHasResponse bytes ⊎ HasManyFields bytes

-- the line has no byte but perhaps a carriage return
abbrev pub IsBlankLine : List ℕ → Type 0
IsBlankLine line = (line ≡ []) ⊎ (line ≡ 13 ∷ [])

-- the bytes are the head h, without empty lines in front of it, and the spans are its own
pub record IsWholeHead (bytes : List ℕ) (p : HeadParts) (h : ResponseHead) : Type 0 where
  pub parts : HasParts bytes p h
  pub reads : ReadsResponse bytes h []
  pub status : 100 ≤ status_code h
  pub size : length bytes ≤ 65536

-- what was read is a head that a check takes
abbrev pub HoldsHead : Head → Type 0
HoldsHead head = (h : ResponseHead) × IsWholeHead head.bytes.items head.parts h

-- the stream is empty lines, those bytes and the rest; the empty lines and the bytes are so many
pub record AfterBlank (count : ℕ) (bytes stream rest : List ℕ) : Type 0 where
  pub ends : List LineEnd
  pub is : stream ≡ print_blank ends ++ (bytes ++ rest)
  pub counted : length (print_blank ends) + length bytes ≡ count

-- what reading a head does to the stream
abbrev pub HeadOutcome : Result Head CheckError → List ℕ → List ℕ → Type 0
HeadOutcome (Ok head) stream rest = (count : ℕ) × (count ≤ 65536) × AfterBlank count head.bytes.items stream rest
HeadOutcome (Err BadHead) stream rest = HasBadHead stream rest
HeadOutcome (Err HeadTooLarge) stream rest = HasLargeHead stream rest
HeadOutcome (Err EndInMessage) stream rest = (rest ≡ []) × EndsInHead stream
HeadOutcome (Err Read) stream rest = ⊤
HeadOutcome (Err OutOfMemory) stream rest = ⊤
HeadOutcome (Err e) stream rest = ⊥
