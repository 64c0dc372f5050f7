-- How the body of an answer is framed, a profile of RFC 9112 section 6.3: stricter on transfer codings and repeated
-- lengths, and without a rule for CONNECT.
use Rattle.std.specs.Prelude.{◌≡◌, ℕ, Bool, ◌&&◌, ◌||◌, not, List, [], ◌∷◌, length, Option, None, Some, if◌then◌else◌, ◌==◌, nat_lt}
use Rattle.std.specs.Prelude.{nat_le, bytes_eq, codes}
use Rattle.std.specs.List.{list_all}
use Rattle.std.specs.Char.{is_ascii_digit}
use Rattle.std.specs.Str.Parse.{digits_value}
use Rattle.http.specs.declared.response.Parts.{Parts}
use Rattle.http_header.specs.FieldValue.{FieldValue}
use Rattle.http_header.specs.HeaderMap.{get_all}
use Rattle.http_header.specs.Token.{lowercase}
use Rattle.lb_health_http.specs.declared.framing.Found.{Found}
use Rattle.lb_health_http.specs.declared.framing.Found.TheVariants.{Absent, One, Many}
use Rattle.lb_health_http.specs.declared.framing.Framing.{Framing}
use Rattle.lb_health_http.specs.declared.framing.Framing.TheVariants.{Nothing, Sized, Chunked, ToEnd}

-- a length of 1 to 19 decimal digits
abbrev pub length_value : List ℕ → Option ℕ
length_value digits =
    if (nat_lt 0 (length digits) && nat_le (length digits) 19) && list_all is_ascii_digit digits
    then Some (digits_value 10 digits) else None

-- a body of that length
abbrev pub sized_by : Option ℕ → Option Framing
sized_by None = None
sized_by (Some n) = Some (Sized n)

-- a body in chunks, if the coding is that and the version has it
abbrev pub coded_by : ℕ → List ℕ → Option Framing
coded_by minor coding = if not (minor == 0) && bytes_eq (lowercase coding) (codes "chunked") then Some Chunked else None

-- by the minor version, the transfer codings and the lengths; `None` where they contradict each other
abbrev pub framing_by : ℕ → List FieldValue → List FieldValue → Option Framing
framing_by minor [] [] = Some ToEnd
framing_by minor [] (v ∷ []) = sized_by (length_value v.bytes)
framing_by minor [] (v ∷ w ∷ vs) = None
framing_by minor (t ∷ []) [] = coded_by minor t.bytes
framing_by minor (t ∷ []) (v ∷ vs) = None
framing_by minor (t ∷ u ∷ ts) vs = None

-- the statuses whose answers have no body
abbrev pub is_bodiless : ℕ → Bool
is_bodiless status = status == 204 || status == 304

-- by whether the request asked for the head alone, the minor version, and the head
abbrev pub framing_of : Bool → ℕ → Parts → Option Framing
framing_of is_head minor p =
    if is_head || is_bodiless p.status then Some Nothing
    else framing_by minor (get_all p.headers (codes "transfer-encoding")) (get_all p.headers (codes "content-length"))

-- what a look at the values under one name answers: none, one and which, or more
abbrev pub Finds : List FieldValue → Found → Type 0
Finds values Absent = values ≡ []
Finds values (One value) = values ≡ value.now ∷ []
Finds values Many = (v : FieldValue) × (w : FieldValue) × (vs : List FieldValue) × (values ≡ v ∷ w ∷ vs)
