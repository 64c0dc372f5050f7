-- The fields of a head: names without regard to the case of letters, the values under a name, and what is for one connection alone.
use Rattle.std.specs.Prelude.{◌≡◌, ℕ, Bool, ◌||◌, ◌==◌, List, [], ◌∷◌, map, flat_map, codes, bytes_eq, if◌then◌else◌}
use Rattle.std.specs.List.{list_any, slice_split}
use Rattle.std.specs.Char.{to_ascii_lowercase}
use Rattle.httparse.specs.Grammar.{trim_ows}
use Rattle.lb_proxy.specs.declared.http.field.Field.{Field}
use Rattle.lb_proxy.specs.declared.http.field.Found.{Found}
use Rattle.lb_proxy.specs.declared.http.field.Found.TheVariants.{Absent, One, Many}
use denote.Ref.{Bor}

-- whether two names are the same but for the case of letters
unfoldable pub same_name : List ℕ → List ℕ → Bool
same_name a b = bytes_eq (map to_ascii_lowercase a) (map to_ascii_lowercase b)

abbrev pub has_name : List ℕ → Field → Bool
has_name name f = same_name f.name.now name

-- the values of the fields of that name, in order
abbrev pub values_of : List ℕ → List Field → List (List ℕ)
values_of name [] = []
values_of name (f ∷ fields) = if has_name name f then f.value.now ∷ values_of name fields else values_of name fields

-- what a look at the values under one name answers: none, one and which, or more
abbrev pub Finds : List (List ℕ) → Found → Type 0
Finds values Absent = values ≡ []
Finds values (One value) = values ≡ value.now ∷ []
Finds values Many = (v : List ℕ) × (w : List ℕ) × (vs : List (List ℕ)) × (values ≡ v ∷ w ∷ vs)

-- the options that a value of `Connection` lists: what is between its commas, without the white space around it
abbrev pub options_in : List ℕ → List (List ℕ)
options_in value = map trim_ows (slice_split (λ b. b == 44) value)

-- the options of all `Connection` fields, in order
abbrev pub options_of : List Field → List (List ℕ)
options_of fields = flat_map (λ f. if has_name (codes "connection") f then options_in f.value.now else []) fields

-- whether the name is among the options
abbrev pub is_option : List ℕ → List (Bor (List ℕ)) → Bool
is_option name options = list_any (λ option. same_name option.now name) options

-- the fields that say how a message is framed, where it goes and where it comes from
unfoldable pub is_guarded : List ℕ → Bool
is_guarded name =
    same_name name (codes "content-length") || same_name name (codes "host") || same_name name (codes "transfer-encoding")
    || same_name name (codes "via") || same_name name (codes "x-forwarded-for")

-- the fields that say what becomes of a connection
unfoldable pub is_about_connection : List ℕ → Bool
is_about_connection name =
    same_name name (codes "connection") || same_name name (codes "keep-alive") || same_name name (codes "proxy-connection")
    || same_name name (codes "upgrade")

-- the fields that say how a body is coded on one connection
unfoldable pub is_about_coding : List ℕ → Bool
is_about_coding name = same_name name (codes "te") || same_name name (codes "trailer") || same_name name (codes "transfer-encoding")

-- the fields that are for one connection in any message
abbrev pub is_hop_by_hop : List ℕ → Bool
is_hop_by_hop name = is_about_connection name || is_about_coding name
