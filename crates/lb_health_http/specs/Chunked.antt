-- A body in chunks, a profile of RFC 9112 section 7.1: chunks, a last chunk, trailer lines and an empty line. A chunk line
-- is that of `httparse`'s grammar, of at most 4096 bytes.
use Rattle.std.specs.Prelude.{◌≡◌, ◌≢◌, ℕ, zero, suc, ◌+◌, ◌-◌, ◌<◌, ◌≤◌, max, ◌⊎◌, List, [], ◌∷◌, ◌++◌, length, All, ⊤}
use Rattle.std.specs.List.{flat_map}
use Rattle.httparse.specs.Ascii.{crlf_bytes}
use Rattle.httparse.specs.Grammar.{AllPass, ChunkLine, IsChunkLine, print_chunk_line, chunk_size, is_extension_byte}
use Rattle.lb_health_core.specs.declared.error.CheckError.{CheckError}
use Rattle.lb_health_core.specs.declared.error.CheckError.TheVariants.{BadFraming, EndInMessage, BodyTooLarge}

-- a chunk line within its limit
pub record IsLine (l : ChunkLine) : Type 0 where
  pub valid : IsChunkLine l
  pub size : length (print_chunk_line l) ≤ 4096

-- a chunk: its line, and its bytes
pub record Chunk : Type 0 where
  pub line : ChunkLine
  pub content : List ℕ

-- the line, the bytes, and CR LF
abbrev pub print_chunk : Chunk → List ℕ
print_chunk c = print_chunk_line c.line ++ (c.content ++ crlf_bytes)

-- a chunk that isn't the last: it has a byte, and as many as its line says
pub record IsChunk (c : Chunk) : Type 0 where
  pub line : IsLine c.line
  pub some : 0 < chunk_size c.line
  pub sized : length c.content ≡ chunk_size c.line

-- a trailer line: one byte or more, none of them CR or LF
pub record IsTrailer (t : List ℕ) : Type 0 where
  pub some : 0 < length t
  pub bytes : AllPass is_extension_byte t

-- the line, and CR LF
abbrev pub print_trailer : List ℕ → List ℕ
print_trailer t = t ++ crlf_bytes

-- trailer lines of at most so many bytes together, an empty line, and the rest
pub record HasTrailers (room : ℕ) (text rest : List ℕ) : Type 0 where
  pub lines : List (List ℕ)
  pub valid : All IsTrailer lines
  pub size : length (flat_map print_trailer lines) ≤ room
  pub is : text ≡ flat_map print_trailer lines ++ (crlf_bytes ++ rest)

-- a last chunk's line, and what follows it
pub record HasEnd (text rest : List ℕ) : Type 0 where
  pub line : ChunkLine
  pub valid : IsLine line
  pub empty : chunk_size line ≡ 0
  pub after : List ℕ
  pub is : text ≡ print_chunk_line line ++ after
  pub trailers : HasTrailers 65536 after rest

-- the text begins with those chunks and the end of the body; size is the sum of the chunks' sizes
abbrev pub HasChunks : List Chunk → List ℕ → ℕ → List ℕ → Type 0
HasChunks [] text size rest = (size ≡ 0) × HasEnd text rest
HasChunks (c ∷ cs) text size rest =
    IsChunk c × ((after : List ℕ) × (text ≡ print_chunk c ++ after)
    × ((others : ℕ) × (size ≡ chunk_size c.line + others) × HasChunks cs after others rest))

-- the text begins with a body in chunks, of that size
abbrev pub HasChunked : List ℕ → ℕ → List ℕ → Type 0
HasChunked text size rest = (cs : List Chunk) × HasChunks cs text size rest

-- ---- a body at fault. In each of these the rest is what follows the place of the fault

-- no byte is a line feed
abbrev pub NoFeed : List ℕ → Type 0
NoFeed [] = ⊤
NoFeed (b ∷ bytes) = (b ≢ 10) × NoFeed bytes

-- a text whose last byte, and no other, is a line feed
pub record IsLineText (line : List ℕ) : Type 0 where
  pub front : List ℕ
  pub clear : NoFeed front
  pub is : line ≡ front ++ 10 ∷ []

-- the line is no chunk line
abbrev pub IsNoChunkLine : List ℕ → Type 0
IsNoChunkLine line = (l : ChunkLine) → IsChunkLine l → line ≢ print_chunk_line l

-- the line is a trailer line
abbrev pub IsTrailerLine : List ℕ → Type 0
IsTrailerLine line = (t : List ℕ) × IsTrailer t × (line ≡ t ++ crlf_bytes)

-- the text ends in a line, before its line feed and before so many bytes
abbrev pub EndsInLine : ℕ → List ℕ → List ℕ → Type 0
EndsInLine most text rest = (rest ≡ []) × NoFeed text × (length text < most)

-- the text begins with so many bytes without a line feed
abbrev pub HasLongLine : ℕ → List ℕ → List ℕ → Type 0
HasLongLine most text rest = (line : List ℕ) × (text ≡ line ++ rest) × (length line ≡ most) × NoFeed line

-- the n bytes of a chunk have no CR LF behind them, or the text ends before that
abbrev pub ContentFault : CheckError → ℕ → List ℕ → List ℕ → Type 0
ContentFault BadFraming n text rest =
    (content : List ℕ) × (length content ≡ n) × ((x : ℕ)
    × (((text ≡ content ++ x ∷ rest) × (x ≢ 13)) ⊎ ((text ≡ content ++ 13 ∷ x ∷ rest) × (x ≢ 10))))
ContentFault EndInMessage n text rest =
    (rest ≡ []) × ((length text ≤ n) ⊎ ((content : List ℕ) × (length content ≡ n) × (text ≡ content ++ 13 ∷ [])))
ContentFault e n text rest = ⊥

-- with so much room left for trailers a line is too long, or neither a trailer line nor empty; or the text ends in a line
abbrev pub TrailerFault : CheckError → ℕ → List ℕ → List ℕ → Type 0
TrailerFault BadFraming room text rest =
    HasLongLine (max room 2) text rest
    ⊎ ((line : List ℕ) × IsLineText line × (length line ≤ max room 2) × (line ≢ crlf_bytes) × ¬ (IsTrailerLine line)
    × (text ≡ line ++ rest))
TrailerFault EndInMessage room text rest = EndsInLine (max room 2) text rest
TrailerFault e room text rest = ⊥

-- the text begins with those trailer lines, which the room has place for, and then such a fault
abbrev pub HasTrailerFault : CheckError → List (List ℕ) → ℕ → List ℕ → List ℕ → Type 0
HasTrailerFault e [] room text rest = TrailerFault e room text rest
HasTrailerFault e (t ∷ ts) room text rest =
    IsTrailer t × (length (print_trailer t) ≤ room) × ((after : List ℕ) × (text ≡ print_trailer t ++ after)
    × HasTrailerFault e ts (room - length (print_trailer t)) after rest)

-- the trailers have that fault, within so much room
abbrev pub AreTrailersAtFault : CheckError → ℕ → List ℕ → List ℕ → Type 0
AreTrailersAtFault e room text rest = (ts : List (List ℕ)) × HasTrailerFault e ts room text rest

-- a fault behind the line of a chunk of that size: in its content, or behind the last chunk's line in the trailers
abbrev pub FaultBehind : CheckError → ℕ → List ℕ → List ℕ → Type 0
FaultBehind e zero text rest = AreTrailersAtFault e 65536 text rest
FaultBehind e (suc n) text rest = ContentFault e (suc n) text rest

-- a chunk's line that keeps to the limit, and a fault behind it
abbrev pub HasLineBefore : CheckError → ℕ → List ℕ → List ℕ → Type 0
HasLineBefore e limit text rest =
    (line : ChunkLine) × IsLine line × (chunk_size line ≤ limit) × ((after : List ℕ) × (text ≡ print_chunk_line line ++ after)
    × FaultBehind e (chunk_size line) after rest)

-- where a chunk's line is due: the line of a chunk that passes the limit; a line that is too long or no chunk line, or a bad
-- chunk behind one; or the text ends in that line or behind it
abbrev pub ChunkFault : CheckError → ℕ → List ℕ → List ℕ → Type 0
ChunkFault BodyTooLarge limit text rest =
    (line : ChunkLine) × IsLine line × (limit < chunk_size line) × (text ≡ print_chunk_line line ++ rest)
ChunkFault BadFraming limit text rest =
    HasLongLine 4096 text rest
    ⊎ (((line : List ℕ) × IsLineText line × (length line ≤ 4096) × IsNoChunkLine line × (text ≡ line ++ rest))
    ⊎ HasLineBefore BadFraming limit text rest)
ChunkFault EndInMessage limit text rest = EndsInLine 4096 text rest ⊎ HasLineBefore EndInMessage limit text rest
ChunkFault e limit text rest = ⊥

-- the text begins with those chunks, which are within the limit together, and then such a fault
abbrev pub HasChunkFault : CheckError → List Chunk → ℕ → List ℕ → List ℕ → Type 0
HasChunkFault e [] limit text rest = ChunkFault e limit text rest
HasChunkFault e (c ∷ cs) limit text rest =
    IsChunk c × (chunk_size c.line ≤ limit) × ((after : List ℕ) × (text ≡ print_chunk c ++ after)
    × HasChunkFault e cs (limit - chunk_size c.line) after rest)

-- the body in chunks has that fault
abbrev pub IsChunkedFault : CheckError → ℕ → List ℕ → List ℕ → Type 0
IsChunkedFault e limit text rest = (cs : List Chunk) × HasChunkFault e cs limit text rest
