-- Lemmas on heads that may be passed on: at the front of bytes there is at most one, so what is refused is none.
use Rattle.std.proofs.Common.{◌≡◌, ℕ, ◌<◌, ◌≤◌, Bool, true, false, ◌||◌, cond, List, [], ◌∷◌, ◌++◌, length, map, take, codes, bytes_eq}
use Rattle.std.proofs.Common.{Ok, Err, sym, ap, ◌∙◌, subst, refl, arith}
use Rattle.std.proofs.Common.{◌-◌, drop, get_or, leb, ◌+◌, ◌⊎◌, inl, inr}
use Rattle.std.proofs.lemmas.Bool.Decides.{leb_tells}
use Rattle.std.proofs.Math.Seq.{take-append-add}
use Rattle.std.specs.List.{list_any}
use Rattle.std.proofs.lemmas.List.{length-map, length-take, length-append, take-append-le, get_or_append_left}
use Rattle.httparse.specs.Grammar as Grammar
use Rattle.httparse.specs.Grammar.{print_request, print_response, status_code, HasNoRequest, HasNoResponse}
use Rattle.httparse.specs.Spans.{span_bytes, header_bytes, name_and_value, IsRequestOf, IsResponseOf, RequestOverflows, ResponseOverflows}
use Rattle.httparse.specs.declared.spans.HeaderSpan.{HeaderSpan}
use Rattle.httparse.specs.declared.spans.RequestSpans.{RequestSpans}
use Rattle.httparse.specs.declared.spans.ResponseSpans.{ResponseSpans}
use Rattle.httparse.proofs.GrammarLemmas.{request_unique, response_unique, ReadsRequest-append, ReadsResponse-append}
use Rattle.lb_proxy.specs.declared.http.fault.Fault.{Fault}
use Rattle.lb_proxy.specs.declared.http.field.Field.{Field}
use Rattle.lb_proxy.specs.declared.http.framing.Framing.{Framing}
use Rattle.lb_proxy.specs.declared.http.framing.Stated.{Stated}
use Rattle.lb_proxy.specs.declared.http.framing.Stated.TheVariants.{Silent, Length, Chunks, Coded, Ambiguous}
use Rattle.lb_proxy.specs.declared.http.framing.Version.{Version}
use Rattle.lb_proxy.specs.declared.http.request.Asked.{Asked}
use Rattle.lb_proxy.specs.declared.http.request.RequestHead.{RequestHead}
use Rattle.lb_proxy.specs.declared.http.response.ResponseHead.{ResponseHead}
use Rattle.lb_proxy.specs.Http.Fields.{same_name, has_name, values_of, options_in, options_of, is_guarded}
use Rattle.lb_proxy.specs.Http.Framing.{statement_of, request_framing, response_framing}
use Rattle.lb_proxy.specs.Http.Heads.{HasStrictFeeds, plain, version_of, right_host, is_right_target, begins_blank, IsRequest, IsResponse}
use Rattle.lb_proxy.specs.Internal.RefusedSpans.{spans_ask_more}
use Rattle.lb_proxy.specs.Http.Refusals.{values_under, stated_in, asks_more}
use denote.Ref.{Bor}

-- ---- what is said of fields rests on their names and values alone

values_seen : (name : List ℕ) (fields : List Field) → values_of name fields ≡ values_under name (map plain fields)
values_seen name [] = refl
values_seen name (f ∷ fields) =
    ap (λ (vs : List (List ℕ)). cond (has_name name f) (f.value.now ∷ vs) vs) (values_seen name fields)

pub values_same : (name : List ℕ) (fields others : List Field) → map plain fields ≡ map plain others
    → values_of name fields ≡ values_of name others
values_same name fields others same = values_seen name fields ∙ ap (values_under name) same ∙ sym (values_seen name others)

pub statement_same : (version other : Version) (fields others : List Field) → version ≡ other → map plain fields ≡ map plain others
    → statement_of version fields ≡ statement_of other others
unfolding statement_of
statement_same version other fields others is same =
    rw (is, values_same (codes "transfer-encoding") fields others same, values_same (codes "content-length") fields others same) refl

pub statement_seen : (version : Version) (fields : List Field) → statement_of version fields ≡ stated_in version (map plain fields)
unfolding statement_of
statement_seen version fields =
    rw (values_seen (codes "transfer-encoding") fields, values_seen (codes "content-length") fields) refl

abbrev options_at : List (List ℕ × List ℕ) → List (List ℕ)
options_at [] = []
options_at (p ∷ ps) = cond (same_name p.0 (codes "connection")) (options_in p.1) [] ++ options_at ps

options_seen : (fields : List Field) → options_of fields ≡ options_at (map plain fields)
options_seen [] = refl
options_seen (f ∷ fields) =
    ap (λ (os : List (List ℕ)). cond (has_name (codes "connection") f) (options_in f.value.now) [] ++ os) (options_seen fields)

pub options_same : (fields others : List Field) → map plain fields ≡ map plain others → options_of fields ≡ options_of others
options_same fields others same = options_seen fields ∙ ap options_at same ∙ sym (options_seen others)

guarded_seen : (options : List (Bor (List ℕ))) → list_any (λ o. is_guarded o.now) options ≡ list_any is_guarded (map (λ o. o.now) options)
guarded_seen [] = refl
guarded_seen (o ∷ options) = ap (λ (b : Bool). is_guarded o.now || b) (guarded_seen options)

guarded_same : (options others : List (Bor (List ℕ))) → map (λ o. o.now) options ≡ map (λ o. o.now) others
    → list_any (λ o. is_guarded o.now) options ≡ list_any (λ o. is_guarded o.now) others
guarded_same options others same = guarded_seen options ∙ ap (list_any is_guarded) same ∙ sym (guarded_seen others)

pub few_fields : (bytes : List ℕ) (spans : List HeaderSpan) (count : ℕ) (fields : List Field) → length spans ≤ 100
    → map plain fields ≡ map (header_bytes bytes) (take count spans) → length fields ≤ 100
few_fields bytes spans count fields room same =
    let len : length fields ≡ length (take count spans) =
    sym (length-map fields plain) ∙ ap length same ∙ length-map (take count spans) (header_bytes bytes) in
    omega (arith, len, length-take count spans)

pub parsed_few : (fields : List Field) (parsed : List Grammar.Field) → map plain fields ≡ map name_and_value parsed → length fields ≤ 100
    → length parsed ≤ 100
parsed_few fields parsed same few =
    let len : length fields ≡ length parsed = sym (length-map fields plain) ∙ ap length same ∙ length-map parsed name_and_value in
    omega (arith, len)

-- ---- what is at the front of bytes

take_front : (bytes more : List ℕ) (n : ℕ) → n ≤ length bytes → take n (bytes ++ more) ≡ take n bytes
take_front bytes more n within = take-append-le n bytes more within

take_over : (bytes more : List ℕ) (n : ℕ) → length bytes ≤ n → take n (bytes ++ more) ≡ bytes ++ take (n - length bytes) more
take_over bytes more n long =
    let whole : n ≡ length bytes + (n - length bytes) = omega arith in
    ap (λ (k : ℕ). take k (bytes ++ more)) whole ∙ take-append-add bytes more (n - length bytes)

prefix_is : (front bytes more rest : List ℕ) → bytes ++ more ≡ front ++ rest → length front ≤ length bytes
    → bytes ≡ front ++ drop (length front) bytes
prefix_is [] bytes more rest same within = refl
prefix_is (x ∷ front) [] more rest same within = absurd (omega arith)
prefix_is (x ∷ front) (b ∷ bytes) more rest same within =
    let first : b ≡ x = cc in
    let tails : bytes ≡ front ++ drop (length front) bytes = prefix_is front bytes more rest (cc) (omega arith) in
    ap (λ (l : List ℕ). b ∷ l) tails ∙ ap (λ (y : ℕ). y ∷ (front ++ drop (length front) bytes)) first

strict_front : (bytes more : List ℕ) → HasStrictFeeds (bytes ++ more) → HasStrictFeeds bytes
strict_front bytes more strict k below feed =
    let here : get_or (bytes ++ more) k 0 ≡ get_or bytes k 0 = get_or_append_left bytes more 0 k below in
    let both = strict k (omega (arith, length-append bytes more)) (here ∙ feed) in
    let before : get_or (bytes ++ more) (k - 1) 0 ≡ get_or bytes (k - 1) 0 = get_or_append_left bytes more 0 (k - 1) (omega arith) in
    (both.0, sym before ∙ both.1)

strict_bytes : (bytes more : List ℕ) (n : ℕ) → length bytes ≤ n → HasStrictFeeds (take n (bytes ++ more)) → HasStrictFeeds bytes
strict_bytes bytes more n long strict =
    strict_front bytes (take (n - length bytes) more) (subst (λ (l : List ℕ). HasStrictFeeds l) (take_over bytes more n long) strict)

-- ---- what asks for more

asks_nothing : (stated : Stated) (method : List ℕ) (framing : Framing) → request_framing stated ≡ Ok framing
    → bytes_eq method (codes "CONNECT") ≡ false → asks_more stated method ≡ false
asks_nothing Silent method framing framed no_tunnel = no_tunnel
asks_nothing (Length n) method framing framed no_tunnel = no_tunnel
asks_nothing Chunks method framing framed no_tunnel = no_tunnel
asks_nothing Coded method framing framed no_tunnel = absurd (cc)
asks_nothing Ambiguous method framing framed no_tunnel = refl

pub asks_seen : (bytes : List ℕ) (spans : List HeaderSpan) (found : RequestSpans) (fields : List Field) (method : List ℕ)
    → map plain fields ≡ map (header_bytes bytes) (take found.headers spans) → method ≡ span_bytes bytes found.method
    → asks_more (statement_of (version_of found.version) fields) method ≡ spans_ask_more bytes spans found
asks_seen bytes spans found fields method at named =
    let version = version_of found.version in
    ap (λ (s : Stated). asks_more s method) (statement_seen version fields ∙ ap (stated_in version) at)
    ∙ ap (asks_more (stated_in version (map (header_bytes bytes) (take found.headers spans)))) named

-- ---- requests

pub record IsSame (bytes : List ℕ) (spans : List HeaderSpan) (found : RequestSpans) (head : RequestHead) : Type 0 where
  pub len : found.len ≡ head.length
  pub method : span_bytes bytes found.method ≡ head.method.now
  pub target : span_bytes bytes found.path ≡ head.target.now
  pub version : version_of found.version ≡ head.version
  pub fields : map (header_bytes bytes) (take found.headers spans) ≡ map plain head.fields.items

same_request : (bytes more : List ℕ) (spans : List HeaderSpan) (found : RequestSpans) (head : RequestHead) → IsRequestOf bytes spans found
    → IsRequest (bytes ++ more) head → IsSame bytes spans found head
same_request bytes more spans found head parsed is =
    let at = parsed.1 in
    let reads = ReadsRequest-append bytes parsed.0 (drop found.len bytes) more at.reads in
    let same : parsed.0 ≡ is.parsed = (request_unique (bytes ++ more) parsed.0 is.parsed _ _ reads is.reads).0 in
    record {
      len = at.len ∙ ap (λ (k : Grammar.RequestHead). length (print_request k)) same ∙ sym is.length_is;
      method = at.method ∙ ap (λ (k : Grammar.RequestHead). k.method) same ∙ sym is.method;
      target = at.path ∙ ap (λ (k : Grammar.RequestHead). k.target) same ∙ sym is.target;
      version = ap version_of (at.version ∙ ap (λ (k : Grammar.RequestHead). k.minor) same) ∙ sym is.version;
      fields = at.fields ∙ ap (λ (k : Grammar.RequestHead). map name_and_value k.fields) same ∙ sym is.fields;
    }

module _ (bytes more : List ℕ) (spans : List HeaderSpan) (found : RequestSpans) (parsed : IsRequestOf bytes spans found) where
  pub never_long : 65536 < found.len → (head : RequestHead) → ¬ (IsRequest (bytes ++ more) head)
  never_long long head is =
      let same = same_request bytes more spans found head parsed is in let len = same.len in let short = is.short in omega arith

  pub never_bare : found.len ≤ length bytes → ¬ (HasStrictFeeds (take found.len bytes))
      → (head : RequestHead) → ¬ (IsRequest (bytes ++ more) head)
  never_bare within bare head is =
      let same = same_request bytes more spans found head parsed is in
      let here : HasStrictFeeds (take found.len (bytes ++ more)) =
      subst (λ (n : ℕ). HasStrictFeeds (take n (bytes ++ more))) (sym same.len) is.strict in
      bare (subst (λ (l : List ℕ). HasStrictFeeds l) (take_front bytes more found.len within) here)

  pub never_framed : (fields : List Field) (fault : Fault) → map plain fields ≡ map (header_bytes bytes) (take found.headers spans)
      → request_framing (statement_of (version_of found.version) fields) ≡ Err fault
      → (head : RequestHead) → ¬ (IsRequest (bytes ++ more) head)
  never_framed fields fault at fails head is =
      let same = same_request bytes more spans found head parsed is in
      let stated = statement_same (version_of found.version) head.version fields head.fields.items same.version (at ∙ same.fields) in
      let framed = is.framed in
      let both : Err fault ≡ Ok head.framing = sym fails ∙ ap request_framing stated ∙ framed in cc

  pub never_asking : (fields : List Field) (method : List ℕ) → map plain fields ≡ map (header_bytes bytes) (take found.headers spans)
      → method ≡ span_bytes bytes found.method → asks_more (statement_of (version_of found.version) fields) method ≡ true
      → (head : RequestHead) → ¬ (IsRequest (bytes ++ more) head)
  never_asking fields method at named holds head is =
      let same = same_request bytes more spans found head parsed is in
      let stated = statement_same (version_of found.version) head.version fields head.fields.items same.version (at ∙ same.fields) in
      let fails : asks_more (statement_of (version_of found.version) fields) method ≡ false =
      ap (λ (s : Stated). asks_more s method) stated ∙ ap (asks_more (statement_of head.version head.fields.items)) (named ∙ same.method)
      ∙ asks_nothing (statement_of head.version head.fields.items) head.method.now head.framing is.framed is.no_tunnel in cc

  pub never_guarded : (fields : List Field) (options : List (Bor (List ℕ)))
      → map plain fields ≡ map (header_bytes bytes) (take found.headers spans) → map (λ o. o.now) options ≡ options_of fields
      → list_any (λ o. is_guarded o.now) options ≡ true → (head : RequestHead) → ¬ (IsRequest (bytes ++ more) head)
  never_guarded fields options at listed holds head is =
      let same = same_request bytes more spans found head parsed is in
      let listed_same : map (λ o. o.now) options ≡ map (λ o. o.now) head.options.items =
      listed ∙ options_same fields head.fields.items (at ∙ same.fields) ∙ sym is.options in
      let fails : list_any (λ o. is_guarded o.now) options ≡ false =
      guarded_same options head.options.items listed_same ∙ is.unguarded in cc

  pub never_hosted : (fields : List Field) → map plain fields ≡ map (header_bytes bytes) (take found.headers spans)
      → right_host (version_of found.version) (values_of (codes "host") fields) ≡ false
      → (head : RequestHead) → ¬ (IsRequest (bytes ++ more) head)
  never_hosted fields at fails head is =
      let same = same_request bytes more spans found head parsed is in
      let values = values_same (codes "host") fields head.fields.items (at ∙ same.fields) in
      let holds : right_host (version_of found.version) (values_of (codes "host") fields) ≡ true =
      ap (λ (v : Version). right_host v (values_of (codes "host") fields)) same.version
      ∙ ap (right_host head.version) values ∙ is.host in cc

  pub never_targeted : (method target : List ℕ) → method ≡ span_bytes bytes found.method → target ≡ span_bytes bytes found.path
      → is_right_target method target ≡ false → (head : RequestHead) → ¬ (IsRequest (bytes ++ more) head)
  never_targeted method target at behind fails head is =
      let same = same_request bytes more spans found head parsed is in
      let holds : is_right_target method target ≡ true =
      ap (λ (m : List ℕ). is_right_target m target) (at ∙ same.method)
      ∙ ap (is_right_target head.method.now) (behind ∙ same.target) ∙ is.right in cc

never_inside : (bytes more : List ℕ) (head : RequestHead) → HasNoRequest bytes → IsRequest (bytes ++ more) head
    → head.length ≤ length bytes → ⊥
never_inside bytes more head none is inside =
    let len = is.length_is in
    none is.parsed (drop (length (print_request is.parsed)) bytes)
    (is.reads.0, prefix_is (print_request is.parsed) bytes more _ is.reads.1 (omega arith))

pub never_unfinished : (bytes more : List ℕ) → HasNoRequest bytes → 65536 ≤ length bytes
    → (head : RequestHead) → ¬ (IsRequest (bytes ++ more) head)
never_unfinished bytes more none long head is = let short = is.short in never_inside bytes more head none is (omega arith)

pub never_started : (bytes more : List ℕ) → HasNoRequest bytes → ¬ (HasStrictFeeds bytes) → (head : RequestHead)
    → ¬ (IsRequest (bytes ++ more) head)
never_started bytes more none bare head is =
    by (leb_tells head.length (length bytes))
  where
    by : ((leb head.length (length bytes) ≡ true) × (head.length ≤ length bytes))
        ⊎ ((leb head.length (length bytes) ≡ false) × (length bytes < head.length)) → ⊥
    by (inl inside) = never_inside bytes more head none is inside.1
    by (inr beyond) = let far = beyond.1 in bare (strict_bytes bytes more head.length (omega arith) is.strict)

pub never_room : (bytes more : List ℕ) → RequestOverflows 100 bytes → (head : RequestHead) → ¬ (IsRequest (bytes ++ more) head)
never_room bytes more over head is =
    let many = over more is.parsed _ is.reads in
    let few = parsed_few head.fields.items is.parsed.fields is.fields is.few in omega arith

-- ---- answers

pub record IsSameAnswer (bytes : List ℕ) (spans : List HeaderSpan) (found : ResponseSpans) (head : ResponseHead) : Type 0 where
  pub len : found.len ≡ head.length
  pub code : found.code ≡ head.status
  pub version : version_of found.version ≡ head.version
  pub fields : map (header_bytes bytes) (take found.headers spans) ≡ map plain head.fields.items

same_answer : (bytes more : List ℕ) (spans : List HeaderSpan) (found : ResponseSpans) (asked : Asked) (head : ResponseHead)
    → IsResponseOf bytes spans found → IsResponse (bytes ++ more) asked head → IsSameAnswer bytes spans found head
same_answer bytes more spans found asked head parsed is =
    let at = parsed.1 in
    let reads = ReadsResponse-append bytes parsed.0 (drop found.len bytes) more at.reads in
    let same : parsed.0 ≡ is.parsed = (response_unique (bytes ++ more) parsed.0 is.parsed _ _ reads is.reads).0 in
    record {
      len = at.len ∙ ap (λ (k : Grammar.ResponseHead). length (print_response k)) same ∙ sym is.length_is;
      code = at.code ∙ ap (λ (k : Grammar.ResponseHead). status_code k) same ∙ sym is.status;
      version = ap version_of (at.version ∙ ap (λ (k : Grammar.ResponseHead). k.minor) same) ∙ sym is.version;
      fields = at.fields ∙ ap (λ (k : Grammar.ResponseHead). map name_and_value k.fields) same ∙ sym is.fields;
    }

module _ (bytes more : List ℕ) (spans : List HeaderSpan) (found : ResponseSpans) (asked : Asked)
    (parsed : IsResponseOf bytes spans found) where
  pub answer_never_long : 65536 < found.len → (head : ResponseHead) → ¬ (IsResponse (bytes ++ more) asked head)
  answer_never_long long head is =
      let same = same_answer bytes more spans found asked head parsed is in let len = same.len in let short = is.short in omega arith

  pub answer_never_low : found.code < 100 → (head : ResponseHead) → ¬ (IsResponse (bytes ++ more) asked head)
  answer_never_low low head is =
      let same = same_answer bytes more spans found asked head parsed is in let code = same.code in let least = is.least in omega arith

  pub answer_never_switch : found.code ≡ 101 → (head : ResponseHead) → ¬ (IsResponse (bytes ++ more) asked head)
  answer_never_switch switch head is =
      let same = same_answer bytes more spans found asked head parsed is in is.no_switch (sym same.code ∙ switch)

  pub answer_never_bare : found.len ≤ length bytes → ¬ (HasStrictFeeds (take found.len bytes))
      → (head : ResponseHead) → ¬ (IsResponse (bytes ++ more) asked head)
  answer_never_bare within bare head is =
      let same = same_answer bytes more spans found asked head parsed is in
      let here : HasStrictFeeds (take found.len (bytes ++ more)) =
      subst (λ (n : ℕ). HasStrictFeeds (take n (bytes ++ more))) (sym same.len) is.strict in
      bare (subst (λ (l : List ℕ). HasStrictFeeds l) (take_front bytes more found.len within) here)

  pub answer_never_framed : (fields : List Field) (fault : Fault)
      → map plain fields ≡ map (header_bytes bytes) (take found.headers spans)
      → response_framing asked found.code (statement_of (version_of found.version) fields) ≡ Err fault
      → (head : ResponseHead) → ¬ (IsResponse (bytes ++ more) asked head)
  answer_never_framed fields fault at fails head is =
      let same = same_answer bytes more spans found asked head parsed is in
      let stated = statement_same (version_of found.version) head.version fields head.fields.items same.version (at ∙ same.fields) in
      let framed = is.framed in
      let both : Err fault ≡ Ok head.framing =
      sym fails ∙ ap (response_framing asked found.code) stated
      ∙ ap (λ (code : ℕ). response_framing asked code (statement_of head.version head.fields.items)) same.code ∙ framed in cc

  pub answer_never_guarded : (fields : List Field) (options : List (Bor (List ℕ)))
      → map plain fields ≡ map (header_bytes bytes) (take found.headers spans) → map (λ o. o.now) options ≡ options_of fields
      → list_any (λ o. is_guarded o.now) options ≡ true → (head : ResponseHead) → ¬ (IsResponse (bytes ++ more) asked head)
  answer_never_guarded fields options at listed holds head is =
      let same = same_answer bytes more spans found asked head parsed is in
      let listed_same : map (λ o. o.now) options ≡ map (λ o. o.now) head.options.items =
      listed ∙ options_same fields head.fields.items (at ∙ same.fields) ∙ sym is.options in
      let fails : list_any (λ o. is_guarded o.now) options ≡ false =
      guarded_same options head.options.items listed_same ∙ is.unguarded in cc

answer_never_inside : (bytes more : List ℕ) (asked : Asked) (head : ResponseHead) → HasNoResponse bytes
    → IsResponse (bytes ++ more) asked head → head.length ≤ length bytes → ⊥
answer_never_inside bytes more asked head none is inside =
    let len = is.length_is in
    none is.parsed (drop (length (print_response is.parsed)) bytes)
    (is.reads.0, prefix_is (print_response is.parsed) bytes more _ is.reads.1 (omega arith))

pub answer_never_unfinished : (bytes more : List ℕ) (asked : Asked) → HasNoResponse bytes → 65536 ≤ length bytes
    → (head : ResponseHead) → ¬ (IsResponse (bytes ++ more) asked head)
answer_never_unfinished bytes more asked none long head is =
    let short = is.short in answer_never_inside bytes more asked head none is (omega arith)

pub answer_never_started : (bytes more : List ℕ) (asked : Asked) → HasNoResponse bytes → ¬ (HasStrictFeeds bytes) → (head : ResponseHead)
    → ¬ (IsResponse (bytes ++ more) asked head)
answer_never_started bytes more asked none bare head is =
    by (leb_tells head.length (length bytes))
  where
    by : ((leb head.length (length bytes) ≡ true) × (head.length ≤ length bytes))
        ⊎ ((leb head.length (length bytes) ≡ false) × (length bytes < head.length)) → ⊥
    by (inl inside) = answer_never_inside bytes more asked head none is inside.1
    by (inr beyond) = let far = beyond.1 in bare (strict_bytes bytes more head.length (omega arith) is.strict)

pub answer_never_room : (bytes more : List ℕ) (asked : Asked) → ResponseOverflows 100 bytes
    → (head : ResponseHead) → ¬ (IsResponse (bytes ++ more) asked head)
answer_never_room bytes more asked over head is =
    let many = over more is.parsed _ is.reads in
    let few = parsed_few head.fields.items is.parsed.fields is.fields is.few in omega arith

pub answer_never_blank : (bytes more : List ℕ) (asked : Asked) → begins_blank bytes ≡ true → (head : ResponseHead)
    → ¬ (IsResponse (bytes ++ more) asked head)
answer_never_blank [] more asked blank head is = cc
answer_never_blank (b ∷ bytes) more asked blank head is = let fails = is.no_blank in cc
