-- The heads of requests and answers that may be passed on: the grammar of `httparse`, within limits and with strict line ends.
use Rattle.std.specs.Prelude.{◌≡◌, ◌≢◌, ℕ, ◌-◌, ◌<◌, ◌≤◌, Bool, true, false, ◌&&◌, ◌||◌, ◌==◌, List, [], ◌∷◌, length, take, drop, map}
use Rattle.std.specs.Prelude.{slice_index}
use Rattle.std.specs.Prelude.{Ok, bytes_eq, codes, if◌then◌else◌}
use Rattle.std.specs.List.{list_any, list_all}
use Rattle.std.specs.Char.{is_ascii_alphanumeric}
use Rattle.httparse.specs.Grammar as Grammar
use Rattle.httparse.specs.Grammar.{ReadsRequest, print_request, ReadsResponse, print_response, status_code, reason_phrase}
use Rattle.httparse.specs.Spans.{name_and_value}
use Rattle.lb_proxy.specs.declared.http.field.Field.{Field}
use Rattle.lb_proxy.specs.declared.http.framing.Version.{Version}
use Rattle.lb_proxy.specs.declared.http.framing.Version.TheVariants.{Http10, Http11}
use Rattle.lb_proxy.specs.declared.http.request.Asked.{Asked}
use Rattle.lb_proxy.specs.declared.http.request.RequestHead.{RequestHead}
use Rattle.lb_proxy.specs.declared.http.response.ResponseHead.{ResponseHead}
use Rattle.lb_proxy.specs.Http.Fields.{values_of, options_of, is_guarded}
use Rattle.lb_proxy.specs.Http.Framing.{statement_of, request_framing, response_framing}

-- a carriage return comes before each line feed
abbrev pub HasStrictFeeds : List ℕ → Type 0
HasStrictFeeds bytes =
    (k : ℕ) → k < length bytes → slice_index bytes k ≡ 10 → (0 < k) × (slice_index bytes (k - 1) ≡ 13)

-- a field's name and value
abbrev pub plain : Field → List ℕ × List ℕ
plain f = (f.name.now, f.value.now)

abbrev pub version_of : ℕ → Version
version_of minor = if minor == 0 then Http10 else Http11

-- a byte of a host's name, of an address in brackets or of a port
unfoldable pub is_host_byte : ℕ → Bool
is_host_byte b = is_ascii_alphanumeric b || list_any (λ c. c == b) (codes "-._~%!$&'()*+;=:[]")

abbrev pub is_old : Version → Bool
is_old Http10 = true
is_old Http11 = false

-- HTTP/1.1 wants one host, HTTP/1.0 at most one
abbrev pub right_host : Version → List (List ℕ) → Bool
right_host version [] = is_old version
right_host version (value ∷ []) = list_all is_host_byte value
right_host version (v ∷ w ∷ vs) = false

-- a target is a path, or `*` where the method is OPTIONS
abbrev pub is_right_target : List ℕ → List ℕ → Bool
is_right_target method [] = false
is_right_target method (b ∷ bytes) =
    if b == 47 then true else bytes_eq (b ∷ bytes) (codes "*") && bytes_eq method (codes "OPTIONS")

-- the bytes begin with that request, which may be passed on; a tunnel never is
pub record IsRequest (bytes : List ℕ) (head : RequestHead) : Type 0 where
  pub parsed : Grammar.RequestHead
  pub reads : ReadsRequest bytes parsed (drop head.length bytes)
  pub length_is : head.length ≡ length (print_request parsed)
  pub short : head.length ≤ 65536
  pub strict : HasStrictFeeds (take head.length bytes)
  pub method : head.method.now ≡ parsed.method
  pub target : head.target.now ≡ parsed.target
  pub version : head.version ≡ version_of parsed.minor
  pub fields : map plain head.fields.items ≡ map name_and_value parsed.fields
  pub options : map (λ o. o.now) head.options.items ≡ options_of head.fields.items
  pub framed : request_framing (statement_of head.version head.fields.items) ≡ Ok head.framing
  pub unguarded : list_any (λ o. is_guarded o.now) head.options.items ≡ false
  pub host : right_host head.version (values_of (codes "host") head.fields.items) ≡ true
  pub right : is_right_target head.method.now head.target.now ≡ true
  pub few : length head.fields.items ≤ 100
  pub no_tunnel : bytes_eq head.method.now (codes "CONNECT") ≡ false

-- a line end comes first
abbrev pub begins_blank : List ℕ → Bool
begins_blank [] = false
begins_blank (b ∷ bytes) = b == 13 || b == 10

-- the bytes begin with that answer to a request, which may be passed on; one that switches protocols never is
pub record IsResponse (bytes : List ℕ) (asked : Asked) (head : ResponseHead) : Type 0 where
  pub parsed : Grammar.ResponseHead
  pub reads : ReadsResponse bytes parsed (drop head.length bytes)
  pub length_is : head.length ≡ length (print_response parsed)
  pub short : head.length ≤ 65536
  pub strict : HasStrictFeeds (take head.length bytes)
  pub status : head.status ≡ status_code parsed
  pub least : 100 ≤ head.status
  pub reason : head.reason.now ≡ reason_phrase parsed.reason
  pub version : head.version ≡ version_of parsed.minor
  pub fields : map plain head.fields.items ≡ map name_and_value parsed.fields
  pub options : map (λ o. o.now) head.options.items ≡ options_of head.fields.items
  pub framed : response_framing asked head.status (statement_of head.version head.fields.items) ≡ Ok head.framing
  pub unguarded : list_any (λ o. is_guarded o.now) head.options.items ≡ false
  pub few : length head.fields.items ≤ 100
  pub no_switch : head.status ≢ 101
  pub no_blank : begins_blank bytes ≡ false
