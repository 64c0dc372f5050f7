-- Lemmas on the text of a request's fields.
use Rattle.std.proofs.Common.{◌≡◌, ℕ, List, [], ◌∷◌, ◌++◌, ap, ◌∙◌, append_assoc, append-nil}
use Rattle.std.specs.List.{flat_map}
use Rattle.std.proofs.lemmas.Grind.{flat_map-append}
use Rattle.http_header.specs.FieldValue.{FieldValue}
use Rattle.lb_health_http.specs.Request.{field_text}

-- one field more was written, in four parts
pub field_more : (t t1 t2 t3 t4 front : List ℕ) (fields : List (List ℕ × FieldValue)) (n : List ℕ) (v : FieldValue)
    → t ≡ front ++ flat_map field_text fields → t1 ≡ t ++ n → t2 ≡ t1 ++ (58 ∷ 32 ∷ []) → t3 ≡ t2 ++ v.bytes
    → t4 ≡ t3 ++ (13 ∷ 10 ∷ []) → t4 ≡ front ++ flat_map field_text (fields ++ (n, v) ∷ [])
field_more t t1 t2 t3 t4 front fields n v e e1 e2 e3 e4 =
    let before = flat_map field_text fields in
    let line = n ++ (58 ∷ 32 ∷ []) ++ v.bytes ++ (13 ∷ 10 ∷ []) in
    let all : flat_map field_text (fields ++ (n, v) ∷ []) ≡ before ++ line =
    flat_map-append field_text fields ((n, v) ∷ []) ∙ ap (λ (l : List ℕ). before ++ l) (append-nil line) in
    rw (e4, e3, e2, e1, e, all) (simp append_assoc)
