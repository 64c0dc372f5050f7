-- What the parts of reading a chunk's line answer: classes of bytes, and how a line may end.
use Rattle.std.specs.Prelude.{◌≡◌, ℕ, Bool, List, ◌++◌, Option}
use Rattle.std.specs.Char.{is_ascii_hexdigit}
use Rattle.httparse.specs.Ascii.{crlf_bytes}
use Rattle.httparse.specs.Grammar.{is_ows, is_extension_byte, IsExtension, print_extension}
use Rattle.lb_health_http.specs.declared.chunk_line.Class.{Class}
use Rattle.lb_health_http.specs.declared.chunk_line.Class.TheVariants.{Digit, Pad, Extension}

-- whether a byte is of that class
abbrev pub class_has : Class → ℕ → Bool
class_has Digit = is_ascii_hexdigit
class_has Pad = is_ows
class_has Extension = is_extension_byte

-- the text is an extension, or nothing, and CR LF
abbrev pub EndsChunkLine : List ℕ → Type 0
EndsChunkLine text = (e : Option (List ℕ)) × IsExtension e × (text ≡ print_extension e ++ crlf_bytes)
