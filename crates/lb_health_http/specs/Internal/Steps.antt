-- What the parts of reading a body do to the stream: lines, bytes that are passed over, the content of a chunk, trailers.
use Rattle.std.specs.Prelude.{◌≡◌, ◌≢◌, ℕ, zero, suc, ◌+◌, ◌<◌, List, [], ◌∷◌, ◌++◌, length, ⊤, Result, Ok, Err}
use Rattle.httparse.specs.Ascii.{crlf_bytes}
use Rattle.httparse.specs.Grammar.{ChunkLine, IsChunkLine, print_chunk_line, chunk_size}
use Rattle.lb_stream.specs.Stream.{Takes}
use Rattle.lb_health_core.specs.declared.error.CheckError.{CheckError}
use Rattle.lb_health_core.specs.declared.error.CheckError.TheVariants.{BadFraming, EndInMessage, Read, OutOfMemory}
use Rattle.lb_health_http.specs.declared.framing.Framing.TheVariants.{Chunked}
use Rattle.lb_health_http.specs.Chunked.{HasTrailers, HasChunked, IsChunkedFault, HasLineBefore, AreTrailersAtFault, ContentFault}
use Rattle.lb_health_http.specs.Chunked.{HasLongLine, EndsInLine}
use Rattle.lb_health_http.specs.Body.{BodyOutcome}

-- a fault in the place of a line of at most so many bytes
abbrev pub LineFault : ℕ → CheckError → List ℕ → List ℕ → Type 0
LineFault most BadFraming stream rest = HasLongLine most stream rest
LineFault most EndInMessage stream rest = EndsInLine most stream rest
LineFault most Read stream rest = ⊤
LineFault most OutOfMemory stream rest = ⊤
LineFault most e stream rest = ⊥

-- what reading a line of at most so many bytes does
abbrev pub LineOutcome : {T : Type 0} → (T → List ℕ) → ℕ → Result T CheckError → List ℕ → List ℕ → Type 0
LineOutcome bytes most (Ok line) stream rest = stream ≡ bytes line ++ rest
LineOutcome bytes most (Err e) stream rest = LineFault most e stream rest

-- the line is a chunk line that writes the number n
abbrev pub IsChunkLineOf : List ℕ → ℕ → Type 0
IsChunkLineOf line n = (l : ChunkLine) × IsChunkLine l × (line ≡ print_chunk_line l) × (n ≡ chunk_size l)

-- what reading one byte that must be b does
abbrev pub ExpectOutcome : ℕ → Result Unit CheckError → List ℕ → List ℕ → Type 0
ExpectOutcome b (Ok _) stream rest = stream ≡ b ∷ rest
ExpectOutcome b (Err BadFraming) stream rest = (x : ℕ) × (stream ≡ x ∷ rest) × (x ≢ b)
ExpectOutcome b (Err EndInMessage) stream rest = (stream ≡ []) × (rest ≡ [])
ExpectOutcome b (Err Read) stream rest = ⊤
ExpectOutcome b (Err e) stream rest = ⊥

-- some bytes were passed over, and so many of all are left to pass
pub record Passed (left all : ℕ) (stream rest : List ℕ) : Type 0 where
  pub front : List ℕ
  pub count : length front + left ≡ all
  pub is : stream ≡ front ++ rest

-- what passing over n bytes does
abbrev pub SkipOutcome : ℕ → Result Unit CheckError → List ℕ → List ℕ → Type 0
SkipOutcome n (Ok _) stream rest = Takes n stream rest
SkipOutcome n (Err EndInMessage) stream rest = (rest ≡ []) × (length stream < n)
SkipOutcome n (Err Read) stream rest = ⊤
SkipOutcome n (Err e) stream rest = ⊥

-- the text is n bytes, CR LF and the rest
abbrev pub HasContent : ℕ → List ℕ → List ℕ → Type 0
HasContent n text rest = (content : List ℕ) × (length content ≡ n) × (text ≡ content ++ (crlf_bytes ++ rest))

-- what reading the content of a chunk of n bytes does
abbrev pub ContentOutcome : ℕ → Result Unit CheckError → List ℕ → List ℕ → Type 0
ContentOutcome n (Ok _) stream rest = HasContent n stream rest
ContentOutcome n (Err BadFraming) stream rest =
    (front : List ℕ) × (tail : List ℕ) × (stream ≡ front ++ tail)
    × ((more after : List ℕ) → HasContent n (front ++ more) after → ⊥) × ContentFault BadFraming n stream rest
ContentOutcome n (Err EndInMessage) stream rest =
    (rest ≡ []) × ((after : List ℕ) → HasContent n stream after → ⊥) × ContentFault EndInMessage n stream rest
ContentOutcome n (Err Read) stream rest = ⊤
ContentOutcome n (Err e) stream rest = ⊥

-- what reading the trailers and the empty line after them does
abbrev pub TrailersOutcome : Result Unit CheckError → List ℕ → List ℕ → Type 0
TrailersOutcome (Ok _) stream rest = HasTrailers 65536 stream rest
TrailersOutcome (Err BadFraming) stream rest =
    (front : List ℕ) × (tail : List ℕ) × (stream ≡ front ++ tail)
    × ((more after : List ℕ) → HasTrailers 65536 (front ++ more) after → ⊥) × AreTrailersAtFault BadFraming 65536 stream rest
TrailersOutcome (Err EndInMessage) stream rest =
    (rest ≡ []) × ((after : List ℕ) → HasTrailers 65536 stream after → ⊥) × AreTrailersAtFault EndInMessage 65536 stream rest
TrailersOutcome (Err Read) stream rest = ⊤
TrailersOutcome (Err OutOfMemory) stream rest = ⊤
TrailersOutcome (Err e) stream rest = ⊥

-- chunks of that size together were passed: a body is there where the rest of one is after them, and so on back; it
-- has the faults that the rest has
pub record PassesChunks (size : ℕ) (stream rest : List ℕ) : Type 0 where
  pub front : List ℕ
  pub is : stream ≡ front ++ rest
  pub on : (text : List ℕ) (n : ℕ) (after : List ℕ) → HasChunked text n after → HasChunked (front ++ text) (size + n) after
  pub back : (text : List ℕ) (n : ℕ) (after : List ℕ) → HasChunked (front ++ text) n after
      → (m : ℕ) × (n ≡ size + m) × HasChunked text m after
  pub fault : (e : CheckError) (room : ℕ) (text after : List ℕ) → IsChunkedFault e room text after
      → IsChunkedFault e (size + room) (front ++ text) after

-- the last chunk's line was passed: there is a body where trailers follow it, and so on back; it has their faults
pub record PassesLast (stream rest : List ℕ) : Type 0 where
  pub front : List ℕ
  pub is : stream ≡ front ++ rest
  pub on : (text after : List ℕ) → HasTrailers 65536 text after → HasChunked (front ++ text) 0 after
  pub back : (text : List ℕ) (n : ℕ) (after : List ℕ) → HasChunked (front ++ text) n after
      → (n ≡ 0) × HasTrailers 65536 text after
  pub fault : (e : CheckError) (room : ℕ) (text after : List ℕ) → AreTrailersAtFault e 65536 text after
      → HasLineBefore e room (front ++ text) after

-- what reading one chunk does, within so much room: a fault is that of a whole body that begins there
abbrev pub StepOutcome : ℕ → Result ℕ CheckError → List ℕ → List ℕ → Type 0
StepOutcome room (Ok zero) stream rest = PassesLast stream rest
StepOutcome room (Ok (suc n)) stream rest = PassesChunks (suc n) stream rest
StepOutcome room (Err e) stream rest = BodyOutcome room Chunked (Err e) stream rest
