-- Why the head of a request is refused, and by which status: 505, 431, 501, or 503 where memory was refused; 400 for any other cause.
use Rattle.std.specs.Prelude.{◌≡◌, ◌⊎◌, ℕ, ◌<◌, ◌≤◌, Bool, true, false, ◌&&◌, ◌||◌, not, ◌==◌, nat_lt, List, [], ◌∷◌, length, take, drop}
use Rattle.std.specs.Prelude.{map, bytes_eq, codes, slice_index, if◌then◌else◌, ⊤}
use Rattle.std.specs.Char.{is_ascii_digit}
use Rattle.httparse.specs.Grammar as Grammar
use Rattle.httparse.specs.Grammar.{is_token_byte, is_uri_byte, ReadsRequest, print_request, HasNoRequest, NeverHasRequest, MayBecomeRequest}
use Rattle.httparse.specs.Grammar.{ReadsResponse, print_response, status_code}
use Rattle.httparse.specs.Pieces.{is_newline}
use Rattle.httparse.specs.Spans.{name_and_value, RequestExceeds}
use Rattle.lb_proxy.specs.declared.http.fault.Fault.{Fault}
use Rattle.lb_proxy.specs.declared.http.framing.Stated.{Stated}
use Rattle.lb_proxy.specs.declared.http.framing.Stated.TheVariants.{Silent, Length, Chunks, Coded, Ambiguous}
use Rattle.lb_proxy.specs.declared.http.framing.Version.{Version}
use Rattle.lb_proxy.specs.declared.http.version.Class.{Class}
use Rattle.lb_proxy.specs.declared.http.version.Class.TheVariants.{Newline, Token, Target, Space}
use Rattle.lb_proxy.specs.Http.Fields.{same_name}
use Rattle.lb_proxy.specs.Http.Framing.{stated_by}
use Rattle.lb_proxy.specs.Http.Heads.{HasStrictFeeds, version_of, begins_blank}

-- ---- 505: the request line names another version than HTTP/1.0 and HTTP/1.1 (RFC 9110 section 15.6.6)

abbrev pub passes : Class → ℕ → Bool
passes Newline b = is_newline b
passes Token b = is_token_byte b
passes Target b = is_uri_byte b
passes Space b = b == 32

-- whether a byte of that class comes first
abbrev pub begins : Class → List ℕ → Bool
begins class [] = false
begins class (b ∷ bytes) = passes class b

-- what is behind the bytes of that class at the front
abbrev pub behind : Class → List ℕ → List ℕ
behind class [] = []
behind class (b ∷ bytes) = if passes class b then behind class bytes else b ∷ bytes

-- what is behind a space at the front; nothing where there is none
abbrev pub behind_space : List ℕ → List ℕ
behind_space text = if begins Space text then drop 1 text else []

-- what is behind one or more bytes of that class and a space; nothing where they aren't there
abbrev pub behind_word : Class → List ℕ → List ℕ
behind_word class text = if begins class text then behind_space (behind class text) else []

-- what comes where a request line has its version: behind line ends, a method, a target and their spaces (RFC 9112 section 3)
abbrev pub version_part : List ℕ → List ℕ
version_part bytes = behind_word Target (behind_word Token (behind Newline bytes))

-- whether the text is a version with its two digits (RFC 9112 section 2.3) and the end of the line, and the version is another one
unfoldable pub is_other_version : List ℕ → Bool
is_other_version text =
    nat_lt 8 (length text) && bytes_eq (take 5 text) (codes "HTTP/") && is_ascii_digit (slice_index text 5) && slice_index text 6 == 46
    && is_ascii_digit (slice_index text 7) && is_newline (slice_index text 8)
    && not (slice_index text 5 == 49 && (slice_index text 7 == 48 || slice_index text 7 == 49))

abbrev pub names_other_version : List ℕ → Bool
names_other_version bytes = is_other_version (version_part bytes)

-- ---- 431: the head is longer than 65536 bytes, or has more than 100 fields (RFC 6585 section 5)

abbrev pub HasLongHead : List ℕ → Type 0
HasLongHead bytes =
    (parsed : Grammar.RequestHead) × (rest : List ℕ) × ReadsRequest bytes parsed rest × (65536 < length (print_request parsed))

-- no whole head is there, in 65536 bytes or more that may become one
abbrev pub IsLongUnfinished : List ℕ → Type 0
IsLongUnfinished bytes = HasNoRequest bytes × MayBecomeRequest bytes × (65536 ≤ length bytes)

abbrev pub IsTooLarge : List ℕ → Type 0
IsTooLarge bytes = HasLongHead bytes ⊎ (IsLongUnfinished bytes ⊎ RequestExceeds 100 bytes)

-- ---- 501: a transfer coding other than chunked (RFC 9112 section 6.1), or a tunnel

-- the values under a name
abbrev pub values_under : List ℕ → List (List ℕ × List ℕ) → List (List ℕ)
values_under name [] = []
values_under name (p ∷ ps) = if same_name p.0 name then p.1 ∷ values_under name ps else values_under name ps

-- what fields, by their names and values, state of a body
abbrev pub stated_in : Version → List (List ℕ × List ℕ) → Stated
stated_in version pairs =
    stated_by version (values_under (codes "transfer-encoding") pairs) (values_under (codes "content-length") pairs)

-- a body that is stated in two ways is malformed, whatever the request asks for
abbrev pub asks_more : Stated → List ℕ → Bool
asks_more Silent method = bytes_eq method (codes "CONNECT")
asks_more (Length n) method = bytes_eq method (codes "CONNECT")
asks_more Chunks method = bytes_eq method (codes "CONNECT")
asks_more Coded method = true
asks_more Ambiguous method = false

abbrev pub head_asks_more : Grammar.RequestHead → Bool
head_asks_more parsed = asks_more (stated_in (version_of parsed.minor) (map name_and_value parsed.fields)) parsed.method

-- ---- the faults

-- a whole head of the grammar is at the front, within the limits, and a carriage return comes before each line feed
pub record IsWithinLimits (bytes : List ℕ) (parsed : Grammar.RequestHead) : Type 0 where
  pub rest : List ℕ
  pub reads : ReadsRequest bytes parsed rest
  pub short : length (print_request parsed) ≤ 65536
  pub few : length parsed.fields ≤ 100
  pub strict : HasStrictFeeds (take (length (print_request parsed)) bytes)

-- None of the other causes is there. A whole head is no longer than the limits and, with strict line ends, asks for nothing more; and
-- where so many bytes hold no whole head, they never will.
pub record IsMalformed (bytes : List ℕ) : Type 0 where
  pub other : names_other_version bytes ≡ false
  pub short : (parsed : Grammar.RequestHead) (rest : List ℕ) → ReadsRequest bytes parsed rest → length (print_request parsed) ≤ 65536
  pub few : (parsed : Grammar.RequestHead) (rest : List ℕ) → ReadsRequest bytes parsed rest → length parsed.fields ≤ 100
  pub plain : (parsed : Grammar.RequestHead) → IsWithinLimits bytes parsed → head_asks_more parsed ≡ false
  pub never : 65536 ≤ length bytes → HasNoRequest bytes → NeverHasRequest bytes

-- The bytes give that fault. A head takes memory for its fields alone.
abbrev pub Refuses : List ℕ → Fault → Type 0
Refuses bytes Fault.VersionNotSupported = names_other_version bytes ≡ true
Refuses bytes Fault.HeadTooLarge = IsTooLarge bytes
Refuses bytes Fault.NotImplemented = (parsed : Grammar.RequestHead) × IsWithinLimits bytes parsed × (head_asks_more parsed ≡ true)
Refuses bytes Fault.Unavailable = (parsed : Grammar.RequestHead) × IsWithinLimits bytes parsed × (0 < length parsed.fields)
Refuses bytes Fault.BadRequest = IsMalformed bytes
Refuses bytes Fault.RequestTimeout = ⊥
Refuses bytes Fault.BadGateway = ⊥
Refuses bytes Fault.GatewayTimeout = ⊥

-- ---- answers: 502, and 503 where memory was refused

-- a whole answer is at the front, within the limits and with strict line ends, and it doesn't switch protocols
pub record IsAnswerWithinLimits (bytes : List ℕ) (parsed : Grammar.ResponseHead) : Type 0 where
  pub rest : List ℕ
  pub reads : ReadsResponse bytes parsed rest
  pub short : length (print_response parsed) ≤ 65536
  pub few : length parsed.fields ≤ 100
  pub strict : HasStrictFeeds (take (length (print_response parsed)) bytes)
  pub least : 100 ≤ status_code parsed
  pub no_switch : ¬ (status_code parsed ≡ 101)
  pub no_blank : begins_blank bytes ≡ false

-- The bytes give that fault. An answer takes memory for its fields alone.
abbrev pub RefusesAnswer : List ℕ → Fault → Type 0
RefusesAnswer bytes Fault.VersionNotSupported = ⊥
RefusesAnswer bytes Fault.HeadTooLarge = ⊥
RefusesAnswer bytes Fault.NotImplemented = ⊥
RefusesAnswer bytes Fault.Unavailable = (parsed : Grammar.ResponseHead) × IsAnswerWithinLimits bytes parsed × (0 < length parsed.fields)
RefusesAnswer bytes Fault.BadRequest = ⊥
RefusesAnswer bytes Fault.RequestTimeout = ⊥
RefusesAnswer bytes Fault.BadGateway = ⊤
RefusesAnswer bytes Fault.GatewayTimeout = ⊥
