-- What a listener selects by, and the bytes of that key.
use Rattle.std.specs.Prelude.{ℕ, ◌&&◌, ◌||◌, ◌==◌, Bool, List, codes, length, drop, nat_lt, eqb, bytes_eq, string_bytes}
use Rattle.std.specs.Prelude.{Option, Some, None, unwrap_or, if◌then◌else◌}
use Rattle.std.specs.Char.{is_ascii_alphanumeric}
use Rattle.std.specs.List.{starts_with, list_all, list_any}
use Rattle.lb_proxy.specs.declared.key.Key.{Key}
use Rattle.lb_proxy.specs.declared.key.Key.TheVariants.{Source, Uri, Header}
use Rattle.lb_proxy.specs.declared.key.OwnedKey.{OwnedKey}
use Rattle.lb_proxy.specs.declared.key.OwnedKey.TheVariants as owned

-- a key, with the name of its field
pub data Kind : Type 0 where
  source : Kind
  uri : Kind
  header : List ℕ → Kind

abbrev pub key_seen : Key → Kind
key_seen Source = source
key_seen Uri = uri
key_seen (Header name) = header name.now

abbrev pub owned_seen : OwnedKey → Kind
owned_seen owned.Source = source
owned_seen owned.Uri = uri
owned_seen (owned.Header name) = header (string_bytes name)

-- the name of a field: letters, digits, and some signs
abbrev pub is_field_byte : ℕ → Bool
is_field_byte byte = is_ascii_alphanumeric byte || list_any (λ sign. sign == byte) (codes "!#$%&'*+-.^_`|~")

abbrev pub is_field_name : List ℕ → Bool
is_field_name name = nat_lt 0 (length name) && list_all is_field_byte name

-- the key that a text spells
abbrev pub key_of_text : List ℕ → Option Kind
key_of_text text =
    if bytes_eq text (codes "source") then Some source else
    if bytes_eq text (codes "uri") then Some uri else
    if starts_with eqb text (codes "header:") && is_field_name (drop 7 text) then Some (header (drop 7 text)) else None

-- the bytes of a key; a request without the field has those of its client
abbrev pub key_bytes : Kind → List ℕ → List ℕ → Option (List ℕ) → List ℕ
key_bytes source address target value = address
key_bytes uri address target value = target
key_bytes (header name) address target value = unwrap_or value address
