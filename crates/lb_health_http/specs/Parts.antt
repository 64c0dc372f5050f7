-- The head of an answer as `http` has it: the status, the version and the fields, each name in lower case and each value
-- without the white space around it.
use Rattle.std.specs.Prelude.{ℕ, List, [], map, if◌then◌else◌, ◌==◌}
use Rattle.http.specs.declared.response.Parts.{Parts}
use Rattle.http.specs.declared.version.Version.{Version}
use Rattle.http.specs.declared.version.TheConstants.Version.{HTTP_10, HTTP_11}
use Rattle.http_header.specs.FieldValue.{FieldValue, plain_value}
use Rattle.http_header.specs.HeaderMap.{append_all}
use Rattle.http_header.specs.Token.{lowercase}
use Rattle.httparse.specs.Grammar.{ResponseHead, status_code}
use Rattle.httparse.specs.Spans.{name_and_value}

-- a field as the map takes it
abbrev pub item_of : List ℕ × List ℕ → List ℕ × FieldValue
item_of p = (lowercase p.0, plain_value p.1)

-- the version of a minor number
abbrev pub version_of : ℕ → Version
version_of minor = if minor == 0 then HTTP_10 else HTTP_11

-- the head
abbrev pub parts_of : ResponseHead → Parts
parts_of h = record {
  status = status_code h;
  version = version_of h.minor;
  headers = append_all [] (map item_of (map name_and_value h.fields));
}
