-- What a pool's file spells: its lines, what a line says, and which of them is the first that is wrong.
use Rattle.std.specs.Prelude.{◌≡◌, ◌≢◌, ℕ, ◌+◌, ◌^◌, Bool, true, false, ◌&&◌, ◌==◌, eqb, nat_lt, List, [], ◌∷◌, ◌++◌, codes, length}
use Rattle.std.specs.Prelude.{Option, Some, None, Result, Ok, Err, IsOk, filter_map, if◌then◌else◌}
use Rattle.std.specs.Borrow.{Bor}
use Rattle.std.specs.Char.{is_ascii_digit}
use Rattle.std.specs.List.{AllByRecursion, slice_split, before_first, list_all, starts_with}
use Rattle.std.specs.Str.{trim}
use Rattle.std.specs.Str.Parse.{digits_value}
use Rattle.lb_select_base.specs.AddressText.{address_of_text, bare_member}
use Rattle.lb_select_base.specs.Backends.{Address}
use Rattle.lb_proxy.specs.declared.pool_file.PoolBackend.{PoolBackend}
use Rattle.lb_proxy.specs.declared.pool_file.PoolCause.{PoolCause}
use Rattle.lb_proxy.specs.declared.pool_file.PoolCause.TheVariants as cause
use Rattle.lb_proxy.specs.declared.pool_file.PoolFault.{PoolFault}
use Rattle.lb_proxy.specs.declared.pool_file.PoolError.{PoolError}
use Rattle.lb_proxy.specs.declared.pool_file.PoolError.TheVariants.{Fault, OutOfMemory}
use Rattle.lb_proxy.specs.declared.pool_file.LineError.{LineError}
use Rattle.lb_proxy.specs.declared.pool_file.LineError.TheVariants.{Wrong, NoMemory}

-- the lines of a text, which line feeds part; behind the last line feed is a line too
abbrev pub lines_of : List ℕ → List (List ℕ)
lines_of text = slice_split (λ byte. byte == 10) text

-- the lines of what is left of a text, if anything is
abbrev pub lines_left : Option (Bor (List ℕ)) → List (List ℕ)
lines_left None = []
lines_left (Some rest) = lines_of rest.now

-- a line up to its first `#`, without the white space around it
abbrev pub content_of : List ℕ → List ℕ
content_of line = trim (before_first (λ byte. byte == 35) line)

-- whether a backend is enabled, and the word after the mark: `!` disables
abbrev pub mark_of : List ℕ → Bool × List ℕ
mark_of [] = (true, [])
mark_of (x ∷ xs) = if x == 33 then (false, xs) else (true, x ∷ xs)

-- a word, divided at its last slash; none where it has no slash
abbrev pub longer : ℕ → List ℕ → Option (List ℕ × List ℕ) → Option (List ℕ × List ℕ)
longer x xs (Some p) = Some (x ∷ p.0, p.1)
longer x xs None = if x == 47 then Some ([], xs) else None

abbrev pub divided : List ℕ → Option (List ℕ × List ℕ)
divided [] = None
divided (x ∷ xs) = longer x xs (divided xs)

-- a decimal digit or more, and nothing else
abbrev pub is_number : List ℕ → Bool
is_number word = nat_lt 0 (length word) && list_all is_ascii_digit word

-- the weight that a word spells: a number of 64 bits
abbrev pub weight_of : List ℕ → Option ℕ
weight_of word = if is_number word && nat_lt (digits_value 10 word) (2 ^ 64) then Some (digits_value 10 word) else None

-- the word names a path
abbrev pub is_path : List ℕ → Bool
is_path word = starts_with eqb word (codes "unix:")

-- by the two sides of the last slash. A path has slashes of its own: what follows its last one is a weight where it spells one.
abbrev pub weighed : List ℕ → List ℕ → Option ℕ → Result (List ℕ × ℕ) PoolCause
weighed word address (Some weight) = Ok (address, weight)
weighed word address None = if is_path word then Ok (word, 1) else Err cause.Weight

abbrev pub spelled_by : List ℕ → Option (List ℕ × List ℕ) → Result (List ℕ × ℕ) PoolCause
spelled_by word None = Ok (word, 1)
spelled_by word (Some p) = weighed word p.0 (weight_of p.1)

-- the address and the weight that a word spells; a weight that is not written is 1
abbrev pub spelled : List ℕ → Result (List ℕ × ℕ) PoolCause
spelled word = spelled_by word (divided word)

-- a backend of that weight at that address, with nothing attached
abbrev pub placed : Bool → ℕ → Option Address → Result PoolBackend PoolCause
placed enabled weight None = Err cause.Address
placed enabled weight (Some address) = Ok (record { backend = bare_member weight address; enabled = enabled })

abbrev pub backend_by : Bool → Result (List ℕ × ℕ) PoolCause → Result PoolBackend PoolCause
backend_by enabled (Ok p) = placed enabled p.1 (address_of_text p.0)
backend_by enabled (Err e) = Err e

-- the backend that a content spells: a mark or none, an address, and a weight or none
abbrev pub backend_of : List ℕ → Result PoolBackend PoolCause
backend_of content = backend_by (mark_of content).0 (spelled (mark_of content).1)

abbrev pub some_backend : Result PoolBackend PoolCause → Result (Option PoolBackend) PoolCause
some_backend (Ok b) = Ok (Some b)
some_backend (Err e) = Err e

-- what a line gives: no backend where it has no content
abbrev pub line_by : List ℕ → Result (Option PoolBackend) PoolCause
line_by [] = Ok None
line_by (x ∷ xs) = some_backend (backend_of (x ∷ xs))

abbrev pub line_of : List ℕ → Result (Option PoolBackend) PoolCause
line_of line = line_by (content_of line)

-- the backend of a line, if it gives one
abbrev pub given : Result (Option PoolBackend) PoolCause → Option PoolBackend
given (Ok b) = b
given (Err e) = None

abbrev pub entry_of : List ℕ → Option PoolBackend
entry_of line = given (line_of line)

-- nothing is wrong with the line
abbrev pub IsRight : List ℕ → Type 0
IsRight line = IsOk (line_of line)

-- the line is the first of them with which something is wrong
pub record IsFirstWrong (lines : List (List ℕ)) (fault : PoolFault) : Type 0 where
  pub before : List (List ℕ)
  pub wrong : List ℕ
  pub after : List (List ℕ)
  pub split : lines ≡ before ++ wrong ∷ after
  pub right : AllByRecursion IsRight before
  pub number : fault.line ≡ length before + 1
  pub cause : line_of wrong ≡ Err fault.cause

-- why the lines give no backends; memory is wanting only where they have one
abbrev pub IsFaultOf : List (List ℕ) → PoolError → Type 0
IsFaultOf lines (Fault fault) = IsFirstWrong lines fault
IsFaultOf lines OutOfMemory = filter_map entry_of lines ≢ []

-- what a function returned of a line is what the line gives; memory is wanting only for a backend
abbrev pub Gives : Result (Option PoolBackend) LineError → Result (Option PoolBackend) PoolCause → Type 0
Gives (Ok b) line = line ≡ Ok b
Gives (Err (Wrong e)) line = line ≡ Err e
Gives (Err NoMemory) line = (b : PoolBackend) × (line ≡ Ok (Some b))
