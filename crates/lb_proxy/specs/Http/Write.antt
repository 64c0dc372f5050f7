-- Heads as they are passed on: the start line, the end-to-end fields in order, and the fields that the proxy adds.
use Rattle.std.specs.Prelude.{ℕ, Bool, ◌&&◌, not, List, [], ◌∷◌, ◌++◌, codes, decimal, flat_map, nat_lt, if◌then◌else◌}
use Rattle.lb_proxy.specs.declared.http.fault.Fault.{Fault}
use Rattle.lb_proxy.specs.declared.http.field.Field.{Field}
use Rattle.lb_proxy.specs.declared.http.framing.Framing.{Framing}
use Rattle.lb_proxy.specs.declared.http.framing.Framing.TheVariants.{Nothing, Sized, Chunked, UntilClose}
use Rattle.lb_proxy.specs.declared.http.framing.Version.{Version}
use Rattle.lb_proxy.specs.declared.http.framing.Version.TheVariants.{Http10, Http11}
use Rattle.lb_proxy.specs.declared.http.request.RequestHead.{RequestHead}
use Rattle.lb_proxy.specs.declared.http.response.ResponseHead.{ResponseHead}
use Rattle.lb_proxy.specs.Http.Fields.{has_name, is_option, is_hop_by_hop}
use denote.Ref.{Bor}

abbrev pub crlf : List ℕ
crlf = 13 ∷ 10 ∷ []

abbrev pub field_text : Field → List ℕ
field_text f = f.name.now ++ codes ": " ++ f.value.now ++ crlf

-- whether a field goes on: it is for no single connection, and no option of this one names it
unfoldable pub is_end_to_end : List (Bor (List ℕ)) → Field → Bool
is_end_to_end options f = not (is_hop_by_hop f.name.now) && not (is_option f.name.now options)

-- the fields that pass the test, in order
abbrev pub fields_text : (Field → Bool) → List Field → List ℕ
fields_text passes fields = flat_map (λ f. if passes f then field_text f else []) fields

abbrev pub version_text : Version → List ℕ
version_text Http10 = codes "HTTP/1.0"
version_text Http11 = codes "HTTP/1.1"

abbrev pub via_text : Version → List ℕ
via_text Http10 = codes "Via: 1.0 lbproxy\r\n"
via_text Http11 = codes "Via: 1.1 lbproxy\r\n"

-- the framing that a length doesn't state
abbrev pub coding_text : Framing → List ℕ
coding_text Nothing = []
coding_text (Sized n) = []
coding_text Chunked = codes "Transfer-Encoding: chunked\r\n"
coding_text UntilClose = []

-- the clients so far, each with a comma
abbrev pub forwarded_text : List Field → List ℕ
forwarded_text fields = flat_map (λ f. if has_name (codes "x-forwarded-for") f then f.value.now ++ codes ", " else []) fields

-- the field that lists the clients is written anew
abbrev pub goes_on : List (Bor (List ℕ)) → Field → Bool
goes_on options f = is_end_to_end options f && not (has_name (codes "x-forwarded-for") f)

abbrev pub request_line : RequestHead → List ℕ
request_line head = head.method.now ++ codes " " ++ head.target.now ++ codes " " ++ version_text head.version ++ crlf

unfoldable pub forwarded_name : List ℕ
forwarded_name = codes "X-Forwarded-For: "

abbrev pub request_added : RequestHead → List ℕ → List ℕ
request_added head client =
    forwarded_name ++ forwarded_text head.fields.items ++ client ++ crlf ++ via_text head.version ++ coding_text head.framing

-- the head of a request as a backend gets it
abbrev pub request_text : RequestHead → List ℕ → List ℕ
request_text head client =
    request_line head ++ fields_text (goes_on head.options.items) head.fields.items ++ request_added head client ++ crlf

-- what an answer says of the client's connection
abbrev pub connection_text : Version → Bool → List ℕ
connection_text Http10 keeps = if keeps then codes "Connection: keep-alive\r\n" else codes "Connection: close\r\n"
connection_text Http11 keeps = if keeps then [] else codes "Connection: close\r\n"

abbrev pub status_line : ResponseHead → List ℕ
status_line head = codes "HTTP/1.1 " ++ decimal head.status ++ codes " " ++ head.reason.now ++ crlf

-- an interim answer says nothing of the connection
abbrev pub response_added : ResponseHead → Version → Bool → List ℕ
response_added head version keeps =
    via_text head.version ++ coding_text head.framing ++ (if nat_lt head.status 200 then [] else connection_text version keeps)

-- the head of an answer as a client of that version gets it
abbrev pub response_text : ResponseHead → Version → Bool → List ℕ
response_text head version keeps =
    status_line head ++ fields_text (is_end_to_end head.options.items) head.fields.items ++ response_added head version keeps ++ crlf

-- the start line of a short answer
abbrev pub fault_line : Fault → List ℕ
fault_line Fault.BadRequest = codes "HTTP/1.1 400 Bad Request\r\n"
fault_line Fault.RequestTimeout = codes "HTTP/1.1 408 Request Timeout\r\n"
fault_line Fault.HeadTooLarge = codes "HTTP/1.1 431 Request Header Fields Too Large\r\n"
fault_line Fault.NotImplemented = codes "HTTP/1.1 501 Not Implemented\r\n"
fault_line Fault.BadGateway = codes "HTTP/1.1 502 Bad Gateway\r\n"
fault_line Fault.Unavailable = codes "HTTP/1.1 503 Service Unavailable\r\n"
fault_line Fault.GatewayTimeout = codes "HTTP/1.1 504 Gateway Timeout\r\n"
fault_line Fault.VersionNotSupported = codes "HTTP/1.1 505 HTTP Version Not Supported\r\n"

abbrev pub spoken : Bool → List ℕ
spoken keeps = if keeps then codes "Connection: keep-alive\r\n" else codes "Connection: close\r\n"

unfoldable pub no_content : List ℕ
no_content = codes "Content-Length: 0\r\n"

-- a short answer: no body, and whether the connection goes on
abbrev pub short_text : Fault → Bool → List ℕ
short_text fault keeps =
    fault_line fault ++ no_content ++ spoken keeps ++ crlf
