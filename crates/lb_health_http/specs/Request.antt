-- The bytes of a request without a body, of version HTTP/1.1 (RFC 9112, sections 2 to 5).
use Rattle.std.specs.Prelude.{ℕ, Bool, List, [], ◌∷◌, ◌++◌, codes, bytes_eq, unwrap_or}
use Rattle.std.specs.List.{flat_map}
use Rattle.http.specs.declared.request.Parts.{Parts}
use Rattle.http_header.specs.FieldValue.{FieldValue}
use Rattle.http_header.specs.HeaderMap.{Entries, pairs}
use Rattle.http_uri.specs.Grammar.{or_slash}
use Rattle.http_uri.specs.Uri.{uri_path_and_query}

-- a field's line
abbrev pub field_text : List ℕ × FieldValue → List ℕ
field_text p = p.0 ++ codes ": " ++ p.1.bytes ++ (13 ∷ 10 ∷ [])

-- the request line, the fields in the order of the map's walk, and an empty line
abbrev pub request_text : List ℕ → List ℕ → Entries FieldValue → List ℕ
request_text method target headers =
    method ++ codes " " ++ target ++ codes " HTTP/1.1" ++ (13 ∷ 10 ∷ []) ++ flat_map field_text (pairs headers)
    ++ (13 ∷ 10 ∷ [])

-- the path and query that a request asks for, `/` where its URI has none
abbrev pub target_of : Parts → List ℕ
target_of p = or_slash (unwrap_or (uri_path_and_query p.uri) [])

-- the bytes of a request
abbrev pub text_of : Parts → List ℕ
text_of p = request_text p.method (target_of p) p.headers

-- whether the request asks for the head alone
abbrev pub asks_for_head : Parts → Bool
asks_for_head p = bytes_eq p.method (codes "HEAD")

-- the bytes of a request for `/` of a host
abbrev pub default_text : List ℕ → List ℕ → List ℕ
default_text method host =
    method ++ codes " / HTTP/1.1" ++ (13 ∷ 10 ∷ []) ++ codes "host: " ++ host ++ (13 ∷ 10 ∷ 13 ∷ 10 ∷ [])
