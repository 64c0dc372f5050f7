-- A body as it is on the way. In chunks it is, by RFC 9112 section 7.1, chunks, a last chunk, trailers and an empty line. Each line ends in
-- CR LF, a chunk's line has nothing but 1 to 16 digits of its size and perhaps an extension, and no byte of a line is a control byte but
-- the tab.
use Rattle.std.specs.Prelude.{◌≡◌, ◌⊎◌, Bool, true, ℕ, zero, suc, ◌+◌, ◌-◌, ◌<◌, ◌≤◌, ◌^◌, List, [], ◌∷◌, ◌++◌, length, ⊤}
use Rattle.std.specs.Char.{is_ascii_hexdigit}
use Rattle.std.specs.Str.Parse.{digits_value_after}
use Rattle.httparse.specs.Grammar.{AllPass, is_token_byte, is_value_byte}
use Rattle.lb_proxy.specs.declared.http.framing.Framing.{Framing}
use Rattle.lb_proxy.specs.declared.http.framing.Framing.TheVariants.{Nothing, Sized, Chunked, UntilClose}

-- bytes of a class, at most so many, and the byte that ends them; what follows has the property, by how many more there could have been
pub record Run (test : ℕ → Bool) (stop : ℕ) (P : ℕ → List ℕ → Type 0) (most : ℕ) (text : List ℕ) : Type 0 where
  pub run : List ℕ
  pub pass : AllPass test run
  pub left : ℕ
  pub within : most ≡ length run + left
  pub after : List ℕ
  pub is : text ≡ run ++ stop ∷ after
  pub follows : P left after

-- a line feed, and what follows has the property
pub record Feed (P : List ℕ → Type 0) (text : List ℕ) : Type 0 where
  pub after : List ℕ
  pub is : text ≡ 10 ∷ after
  pub follows : P after

-- a byte that counts as one of so many, and what follows has the property, by how many are left
abbrev pub Counted : (ℕ → List ℕ → Type 0) → ℕ → List ℕ → Type 0
Counted P zero text = ⊥
Counted P (suc left) text = P left text

-- ---- trailers, of at most so many bytes together: so many field lines, and an empty line

-- the line feed of a trailer, its value and CR, and what follows the first byte of its name
abbrev pub AfterValue : (ℕ → List ℕ → Type 0) → ℕ → List ℕ → Type 0
AfterValue P = Counted (λ left text. Feed (P left) text)

abbrev pub InValue : (ℕ → List ℕ → Type 0) → ℕ → List ℕ → Type 0
InValue P = Run is_value_byte 13 (Counted (AfterValue P))

abbrev pub InName : (ℕ → List ℕ → Type 0) → ℕ → List ℕ → Type 0
InName P = Run is_token_byte 58 (Counted (InValue P))

-- a line, and what follows has the property
pub record Line (P : ℕ → List ℕ → Type 0) (most : ℕ) (text : List ℕ) : Type 0 where
  pub first : ℕ
  pub pass : is_token_byte first ≡ true
  pub after : List ℕ
  pub is : text ≡ first ∷ after
  pub follows : Counted (InName P) most after

abbrev pub Trailers : ℕ → ℕ → List ℕ → Type 0
Trailers zero most text = text ≡ 13 ∷ 10 ∷ []
Trailers (suc n) most text = Line (λ left after. Trailers n left after) most text

-- ---- chunks

-- the end of a chunk's line: CR LF, or first an extension of at most 4096 bytes behind a semicolon; what follows has the property
abbrev pub InExtension : (List ℕ → Type 0) → ℕ → List ℕ → Type 0
InExtension P = Run is_value_byte 13 (λ left text. Feed P text)

abbrev pub Ends : (List ℕ → Type 0) → List ℕ → Type 0
Ends P text =
    ((after : List ℕ) × (text ≡ 13 ∷ after) × Feed P after)
    ⊎ ((after : List ℕ) × (text ≡ 59 ∷ after) × InExtension P 4096 after)

-- the digits of a size below 2 ^ 64 behind so many that write that value, and the end of the line;
-- what follows has the property, by the size
pub record Size (P : ℕ → List ℕ → Type 0) (count value : ℕ) (text : List ℕ) : Type 0 where
  pub digits : List ℕ
  pub pass : AllPass is_ascii_hexdigit digits
  pub some : 0 < count + length digits
  pub few : length digits ≤ 16 - count
  pub small : digits_value_after 16 value digits < 2 ^ 64
  pub rest : List ℕ
  pub is : text ≡ digits ++ rest
  pub ends : Ends (P (digits_value_after 16 value digits)) rest

-- the bytes of a chunk and CR LF; what follows has the property
pub record Content (P : List ℕ → Type 0) (size : ℕ) (text : List ℕ) : Type 0 where
  pub content : List ℕ
  pub sized : length content ≡ size
  pub after : List ℕ
  pub is : text ≡ content ++ 13 ∷ after
  pub follows : Feed P after

-- what follows the line of a chunk of that size, where so many chunks come before the last one; the last has size 0
abbrev pub AfterLine : ℕ → ℕ → List ℕ → Type 0
AfterLine zero size text = (size ≡ 0) × ((n : ℕ) × Trailers n 65536 text)
AfterLine (suc n) size text = (0 < size) × Content (λ after. Size (λ s t. AfterLine n s t) 0 0 after) size text

-- a body with so many chunks before the last one
abbrev pub Chunks : ℕ → List ℕ → Type 0
Chunks n text = Size (λ size after. AfterLine n size after) 0 0 text

-- ---- a body

-- the text is a body of that framing, and no more
abbrev pub IsBody : Framing → List ℕ → Type 0
IsBody Nothing text = text ≡ []
IsBody (Sized n) text = length text ≡ n
IsBody Chunked text = (n : ℕ) × Chunks n text
IsBody UntilClose text = ⊤
