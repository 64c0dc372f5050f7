-- Lemmas on the fields of a head.
use Rattle.std.proofs.Common.{◌≡◌, ◌↔◌, ℕ, ◌+◌, ◌<◌, Bool, true, false, IsTrue, cond, List, ◌∷◌, map, length, get_or, drop, sym, ap, ◌∙◌}
use Rattle.std.specs.Bool.{one_answer}
use Rattle.std.specs.Char.{to_ascii_lowercase}
use Rattle.std.proofs.lemmas.List.{drop_more}
use Rattle.std.proofs.lemmas.Slice.Eq.{bytes_eq-Decides}
use Rattle.lb_proxy.specs.declared.http.field.Field.{Field}
use Rattle.lb_proxy.specs.declared.http.field.Found.{Found}
use Rattle.lb_proxy.specs.declared.http.field.Found.TheVariants.{Absent, One, Many}
use Rattle.lb_proxy.specs.Http.Fields.{same_name, has_name, values_of}

pub tested : (a b : List ℕ) (r : Bool) → (IsTrue r ↔ (map to_ascii_lowercase a ≡ map to_ascii_lowercase b)) → r ≡ same_name a b
unfolding same_name
tested a b r h =
    one_answer r (same_name a b) (h.0, h.1) (bytes_eq-Decides (map to_ascii_lowercase a) (map to_ascii_lowercase b))

-- what was found up to a place, of all values, where so many follow
abbrev pub FindsUpTo : Found → List (List ℕ) → List (List ℕ) → Type 0
FindsUpTo Absent rest all = all ≡ rest
FindsUpTo (One value) rest all = all ≡ value.now ∷ rest
FindsUpTo Many rest all = ⊥

pub values_step : (name : List ℕ) (fields : List Field) (i : ℕ) (f : Field) → i < length fields → f ≡ get_or fields i f
    → values_of name (drop i fields) ≡ cond (has_name name f) (f.value.now ∷ values_of name (drop (i + 1) fields))
    (values_of name (drop (i + 1) fields))
values_step name fields i f within is =
    ap (values_of name) (drop_more fields i f within)
    ∙ ap (λ (g : Field). cond (has_name name g) (g.value.now ∷ values_of name (drop (i + 1) fields)) (values_of name (drop (i + 1) fields)))
    (sym is)

pub values_with : (name : List ℕ) (fields : List Field) (i : ℕ) (f : Field) → i < length fields → f ≡ get_or fields i f
    → has_name name f ≡ true → values_of name (drop i fields) ≡ f.value.now ∷ values_of name (drop (i + 1) fields)
values_with name fields i f within is holds = let one = values_step name fields i f within is in rw holds at one

pub values_without : (name : List ℕ) (fields : List Field) (i : ℕ) (f : Field) → i < length fields → f ≡ get_or fields i f
    → has_name name f ≡ false → values_of name (drop i fields) ≡ values_of name (drop (i + 1) fields)
values_without name fields i f within is fails = let one = values_step name fields i f within is in rw fails at one
