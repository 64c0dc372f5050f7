-- How a body is framed, by what the fields state of it: RFC 9112 section 6.3, stricter. Two statements frame nothing, though they say
-- the same.
use Rattle.std.specs.Prelude.{ℕ, Bool, true, false, ◌&&◌, ◌||◌, not, List, [], ◌∷◌, length, Option, None, Some, Result, Ok, Err}
use Rattle.std.specs.Prelude.{if◌then◌else◌}
use Rattle.std.specs.Prelude.{◌==◌, nat_lt, nat_le, bytes_eq, codes}
use Rattle.std.specs.List.{list_all, list_any}
use Rattle.std.specs.Char.{is_ascii_digit}
use Rattle.std.specs.Str.Parse.{digits_value}
use Rattle.lb_proxy.specs.declared.http.fault.Fault.{Fault}
use Rattle.lb_proxy.specs.declared.http.fault.Fault.TheVariants.{BadRequest, NotImplemented, BadGateway}
use Rattle.lb_proxy.specs.declared.http.field.Field.{Field}
use Rattle.lb_proxy.specs.declared.http.framing.Framing.{Framing}
use Rattle.lb_proxy.specs.declared.http.framing.Framing.TheVariants.{Nothing, Sized, Chunked, UntilClose}
use Rattle.lb_proxy.specs.declared.http.framing.Stated.{Stated}
use Rattle.lb_proxy.specs.declared.http.framing.Stated.TheVariants.{Silent, Length, Chunks, Coded, Ambiguous}
use Rattle.lb_proxy.specs.declared.http.framing.Version.{Version}
use Rattle.lb_proxy.specs.declared.http.framing.Version.TheVariants.{Http10, Http11}
use Rattle.lb_proxy.specs.declared.http.request.Asked.{Asked}
use Rattle.lb_proxy.specs.Http.Fields.{same_name, values_of, is_option}
use denote.Ref.{Bor}

-- a length of 1 to 19 decimal digits
abbrev pub length_value : List ℕ → Option ℕ
length_value digits =
    if (nat_lt 0 (length digits) && nat_le (length digits) 19) && list_all is_ascii_digit digits
    then Some (digits_value 10 digits) else None

abbrev pub stated_length : Option ℕ → Stated
stated_length None = Ambiguous
stated_length (Some n) = Length n

-- HTTP/1.0 has no transfer codings
abbrev pub stated_coding : Version → List ℕ → Stated
stated_coding Http10 coding = Ambiguous
stated_coding Http11 coding = if same_name coding (codes "chunked") then Chunks else Coded

-- what transfer codings and lengths state together
abbrev pub stated_by : Version → List (List ℕ) → List (List ℕ) → Stated
stated_by version [] [] = Silent
stated_by version [] (l ∷ []) = stated_length (length_value l)
stated_by version [] (l ∷ m ∷ ls) = Ambiguous
stated_by version (c ∷ []) [] = stated_coding version c
stated_by version (c ∷ []) (l ∷ ls) = Ambiguous
stated_by version (c ∷ d ∷ cs) ls = Ambiguous

unfoldable pub statement_of : Version → List Field → Stated
statement_of version fields = stated_by version (values_of (codes "transfer-encoding") fields) (values_of (codes "content-length") fields)

-- a request without a statement has no body
abbrev pub request_framing : Stated → Result Framing Fault
request_framing Silent = Ok Nothing
request_framing (Length n) = Ok (Sized n)
request_framing Chunks = Ok Chunked
request_framing Coded = Err NotImplemented
request_framing Ambiguous = Err BadRequest

-- an answer that never has a body, and may say so
abbrev pub bodiless_framing : Stated → Result Framing Fault
bodiless_framing Silent = Ok Nothing
bodiless_framing (Length n) = if n == 0 then Ok Nothing else Err BadGateway
bodiless_framing Chunks = Err BadGateway
bodiless_framing Coded = Err BadGateway
bodiless_framing Ambiguous = Err BadGateway

-- an answer whose fields are those of another one, which has a body
abbrev pub head_framing : Stated → Result Framing Fault
head_framing Silent = Ok Nothing
head_framing (Length n) = Ok Nothing
head_framing Chunks = Ok Nothing
head_framing Coded = Err BadGateway
head_framing Ambiguous = Err BadGateway

-- an answer to a client of that version
abbrev pub full_framing : Version → Stated → Result Framing Fault
full_framing version Silent = Ok UntilClose
full_framing version (Length n) = Ok (Sized n)
full_framing Http10 Chunks = Err BadGateway
full_framing Http11 Chunks = Ok Chunked
full_framing version Coded = Err BadGateway
full_framing version Ambiguous = Err BadGateway

abbrev pub response_framing : Asked → ℕ → Stated → Result Framing Fault
response_framing asked status stated =
    if nat_lt status 200 || status == 204 then bodiless_framing stated
    else (if asked.is_head || status == 304 then head_framing stated else full_framing asked.version stated)

-- whether a connection goes on after a message of that version with these options: RFC 9112 section 9.3
abbrev pub keeps_by : Version → List (Bor (List ℕ)) → Bool
keeps_by Http10 options = not (is_option (codes "close") options) && is_option (codes "keep-alive") options
keeps_by Http11 options = not (is_option (codes "close") options)

-- whether a body ends before its stream does
abbrev pub has_end : Framing → Bool
has_end Nothing = true
has_end (Sized n) = true
has_end Chunked = true
has_end UntilClose = false

abbrev pub has_no_body : Framing → Bool
has_no_body Nothing = true
has_no_body (Sized n) = n == 0
has_no_body Chunked = false
has_no_body UntilClose = false

-- the methods that do no more when a request comes twice: RFC 9110 section 9.2.2
abbrev pub idempotent_methods : List (List ℕ)
idempotent_methods = codes "GET" ∷ codes "HEAD" ∷ codes "OPTIONS" ∷ codes "TRACE" ∷ codes "PUT" ∷ codes "DELETE" ∷ []

unfoldable pub is_idempotent : List ℕ → Bool
is_idempotent method = list_any (bytes_eq method) idempotent_methods
