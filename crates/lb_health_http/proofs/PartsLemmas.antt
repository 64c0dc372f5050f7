-- Lemmas on the fields of a head that was parsed: a header map takes each, and has room for all.
use Rattle.std.proofs.Common.{◌≡◌, ℕ, ◌+◌, ◌<◌, ◌≤◌, inl, inr, List, [], ◌∷◌, ◌++◌, map, length, take, length-take, slice_range, IsTrue}
use Rattle.std.proofs.Common.{bytes_eq, get_or, ap, subst, sym, ◌∙◌, refl, arith, length-append}
use Rattle.std.specs.List.{flat_map}
use Rattle.std.proofs.lemmas.Bool.{cases_Bool}
use Rattle.std.proofs.lemmas.List.{get_or-map, length-map}
use Rattle.std.proofs.lemmas.List.Elements.{All-weaker}
use Rattle.std.proofs.lemmas.List.Folds.{length-flat_map-take}
use Rattle.std.proofs.lemmas.List.Sums.{sum_by-cons}
use Rattle.http_header.specs.FieldName.{IsFieldName}
use Rattle.http_header.specs.FieldValue.{FieldValue, IsFieldValue}
use Rattle.http_header.specs.HeaderMap.{Entries, append, append_all, value_count, RefusesAppend}
use Rattle.http_header.specs.Token as Token
use Rattle.httparse.specs.Grammar as Grammar
use Rattle.httparse.specs.Grammar.{Field, IsField, field_value, print_field, print_end, is_value_byte, is_token_byte, ResponseHead}
use Rattle.httparse.specs.Grammar.{print_response, print_section}
use Rattle.httparse.specs.Spans.{header_bytes, name_and_value}
use Rattle.httparse.specs.declared.spans.HeaderSpan.{HeaderSpan}
use Rattle.httparse.proofs.GrammarLemmas.{print_response-append}
use Rattle.httparse.proofs.TrimLemmas.{AllPass-trim_ows}
use Rattle.lb_health_http.specs.declared.head.HeadParts.{HeadParts}
use Rattle.lb_health_http.specs.Head.{IsWholeHead}
use Rattle.lb_health_http.specs.Parts.{item_of}

-- what a header map takes: a name and a value
pub record IsItem (p : List ℕ × List ℕ) : Type 0 where
  pub name : IsFieldName p.0
  pub value : IsFieldValue p.1

-- a byte of a token, in the words of the parser and of the map
token_byte : (b : ℕ) → IsTrue (is_token_byte b) → IsTrue (Token.is_token_byte b)
unfolding is_token_byte Token.is_token_byte
token_byte b t = t

-- a name and its colon are within the fields' lines
name_short : (fields : List Field) (i : ℕ) (d : Field) → i < length fields
    → length (get_or fields i d).name + 1 ≤ length (flat_map print_field fields)
name_short fields i d within =
    let f = get_or fields i d in
    let line : length (print_field f) ≡ length (f.name ++ 58 ∷ f.raw) + length (print_end f.end) =
    length-append (f.name ++ 58 ∷ f.raw) (print_end f.end) in
    let among = length-flat_map-take print_field fields i d within in
    omega (arith, line, length-append f.name (58 ∷ f.raw), among)

-- and within the head
fields_short : (h : ResponseHead) → length (flat_map print_field h.fields) ≤ length (print_response h)
fields_short h =
    let section = print_section h.fields h.last in
    let line = print_end h.line_end ++ (section ++ []) in
    let reason = Grammar.print_reason h.reason ++ line in
    let digits = h.digits ++ reason in
    let version = Grammar.print_version h.minor in
    let e1 : length section ≡ length (flat_map print_field h.fields) + length (print_end h.last) =
    length-append (flat_map print_field h.fields) (print_end h.last) in
    let e2 : length line ≡ length (print_end h.line_end) + length (section ++ []) = length-append (print_end h.line_end) (section ++ []) in
    let e3 : length reason ≡ length (Grammar.print_reason h.reason) + length line = length-append (Grammar.print_reason h.reason) line in
    let e4 : length digits ≡ length h.digits + length reason = length-append h.digits reason in
    let e5 : length (version ++ 32 ∷ digits) ≡ length version + length (32 ∷ digits) = length-append version (32 ∷ digits) in
    let e6 : length (Grammar.print_blank h.blank ++ (version ++ 32 ∷ digits)) ≡ length (Grammar.print_blank h.blank) + length
    (version ++ 32 ∷ digits) =
    length-append (Grammar.print_blank h.blank) (version ++ 32 ∷ digits) in
    let e7 : length (print_response h ++ []) ≡ length (Grammar.print_blank h.blank ++ (version ++ 32 ∷ digits)) =
    ap length (print_response-append h []) in
    omega (arith, e1, e2, e3, e4, e5, e6, e7, length-append section [], length-append (print_response h) [])

-- a field that the parser read
field_taken : (f : Field) → IsField f → length f.name ≤ 65535 → IsItem (name_and_value f)
field_taken f is short = record {
  name = ((is.name.0, All-weaker (λ b. IsTrue (is_token_byte b)) (λ b. IsTrue (Token.is_token_byte b)) token_byte f.name is.name.1), short);
  value = AllPass-trim_ows is_value_byte f.raw is.raw;
}

-- what a span of a whole head covers
span_taken : (bytes : List ℕ) (p : HeadParts) (h : ResponseHead) (i : ℕ) (d : HeaderSpan) → IsWholeHead bytes p h
    → i < length (take p.found.headers p.fields) → IsItem (header_bytes bytes (get_or (take p.found.headers p.fields) i d))
span_taken bytes p h i d w within =
    let spans = take p.found.headers p.fields in
    let same : map (header_bytes bytes) spans ≡ map name_and_value h.fields = w.parts.at.fields in
    let many : length spans ≡ length h.fields =
    sym (length-map spans (header_bytes bytes)) ∙ ap length same ∙ length-map h.fields name_and_value in
    let f : Field = record { name = []; raw = []; end = Grammar.lf } in
    let one : header_bytes bytes (get_or spans i d) ≡ name_and_value (get_or h.fields i f) =
    sym (get_or-map (header_bytes bytes) spans i d ([], []) within)
    ∙ ap (λ (l : List (List ℕ × List ℕ)). get_or l i ([], [])) same
    ∙ get_or-map name_and_value h.fields i f ([], []) (omega arith) in
    let printed : length bytes ≡ length (print_response h) + 0 = ap length w.reads.1 ∙ length-append (print_response h) [] in
    let short : length (get_or h.fields i f).name ≤ 65535 =
    omega (arith, name_short h.fields i f (omega arith), fields_short h, w.size, printed) in
    subst IsItem (sym one) (field_taken (get_or h.fields i f) (w.reads.0.fields i f (omega arith)) short)

module _ (bytes : List ℕ) (p : HeadParts) (h : ResponseHead) (spans : List HeaderSpan) (i : ℕ) (w : IsWholeHead bytes p h)
    (same : spans ≡ take p.found.headers p.fields) (within : i < length spans) where
  at_span : (d : HeaderSpan) → IsItem (header_bytes bytes (get_or spans i d))
  at_span d =
      subst (λ (l : List HeaderSpan). IsItem (header_bytes bytes (get_or l i d))) (sym same)
      (span_taken bytes p h i d w (subst (λ (l : List HeaderSpan). i < length l) same within))

  -- the name that the span covers, and the value
  pub name_taken : (buf name : List ℕ) (d : HeaderSpan) → buf ≡ bytes
      → name ≡ slice_range buf (get_or spans i d).name.start (get_or spans i d).name.end → IsFieldName name
  name_taken buf name d whole is =
      let cut : slice_range buf (get_or spans i d).name.start (get_or spans i d).name.end ≡ (header_bytes bytes (get_or spans i d)).0 =
      ap (λ (l : List ℕ). slice_range l (get_or spans i d).name.start (get_or spans i d).name.end) whole in
      subst IsFieldName (sym (is ∙ cut)) (at_span d).name

  pub value_taken : (buf value : List ℕ) (d : HeaderSpan) → buf ≡ bytes
      → value ≡ slice_range buf (get_or spans i d).value.start (get_or spans i d).value.end → IsFieldValue value
  value_taken buf value d whole is =
      let cut : slice_range buf (get_or spans i d).value.start (get_or spans i d).value.end ≡ (header_bytes bytes (get_or spans i d)).1 =
      ap (λ (l : List ℕ). slice_range l (get_or spans i d).value.start (get_or spans i d).value.end) whole in
      subst IsFieldValue (sym (is ∙ cut)) (at_span d).value

  few : i < 64
  few =
      let covered = w.parts.at.fields in
      let room = w.parts.room in
      let taken : length spans ≡ length (take p.found.headers p.fields) = ap length same in
      let many : length (take p.found.headers p.fields) ≡ length h.fields =
      sym (length-map (take p.found.headers p.fields) (header_bytes bytes)) ∙ ap length covered ∙ length-map h.fields name_and_value in
      omega (arith, within, taken, many, room)

-- ---- room

count_more : (e : List ℕ × List FieldValue) (m : Entries FieldValue) → value_count (e ∷ m) ≡ length e.1 + value_count m
count_more e m = sum_by-cons (λ (x : List ℕ × List FieldValue). length x.1) e m

-- one value more
append_counts : (m : Entries FieldValue) (name : List ℕ) (v : FieldValue)
    → (length (append m name v) ≤ length m + 1) × (value_count (append m name v) ≡ value_count m + 1)
append_counts [] name v = (omega arith, refl)
append_counts (e ∷ m) name v = elim (cases_Bool (bytes_eq e.0 name)) [
  | inl same ↦
      let grown = count_more (e.0, e.1 ++ v ∷ []) m in
      let is : value_count ((e.0, e.1 ++ v ∷ []) ∷ m) ≡ value_count (e ∷ m) + 1 =
      omega (arith, grown, count_more e m, length-append e.1 (v ∷ [])) in
      rw same (omega arith, is)
  | inr other ↦
      let rest = append_counts m name v in
      let short : length (e ∷ append m name v) ≤ length (e ∷ m) + 1 = omega (arith, rest.0) in
      let is : value_count (e ∷ append m name v) ≡ value_count (e ∷ m) + 1 =
      omega (arith, count_more e (append m name v), count_more e m, rest.1) in
      rw other (short, is)
]

append_all_counts : (m : Entries FieldValue) (items : List (List ℕ × FieldValue))
    → (length (append_all m items) ≤ length m + length items) × (value_count (append_all m items) ≡ value_count m + length items)
append_all_counts m [] = (omega arith, omega arith)
append_all_counts m (x ∷ items) =
    let one = append_counts m x.0 x.1 in
    let rest = append_all_counts (append m x.0 x.1) items in
    (omega (arith, one.0, rest.0), omega (arith, one.1, rest.1))

-- the map of the fields before a span takes its field
pub few_taken : (bytes : List ℕ) (p : HeadParts) (h : ResponseHead) (spans : List HeaderSpan) (i : ℕ) → IsWholeHead bytes p h
    → spans ≡ take p.found.headers p.fields → i < length spans → (m : Entries FieldValue) (name : List ℕ)
    → m ≡ append_all [] (map item_of (map (header_bytes bytes) (take i spans))) → ¬ (RefusesAppend m name)
few_taken bytes p h spans i w same within m name is refused =
    let items = map item_of (map (header_bytes bytes) (take i spans)) in
    let counts = append_all_counts [] items in
    let small = few bytes p h spans i w same within in
    let count : length items ≡ length (take i spans) =
    length-map (map (header_bytes bytes) (take i spans)) item_of ∙ length-map (take i spans) (header_bytes bytes) in
    let names : length m ≤ 64 = omega (arith, ap length is, counts.0, count, small, length-take i spans) in
    let values : value_count m ≤ 64 = omega (arith, ap value_count is, counts.1, count, small, length-take i spans) in
    elim refused [
      | inl full ↦ omega (arith, full, values)
      | inr new ↦ elim new.1 [ inl many ↦ omega (arith, many, names) | inr full ↦ omega (arith, full, values) ]
    ]
