-- Lemmas on why a head is refused: the causes at the spans of a head are causes of its bytes, and no head of the grammar names another
-- version.
use Rattle.std.proofs.Common.{◌≡◌, ℕ, suc, zero, ◌+◌, ◌<◌, ◌≤◌, Bool, true, false, ◌&&◌, ◌||◌, not, ◌==◌, cond, List, [], ◌∷◌, ◌++◌, length}
use Rattle.std.proofs.Common.{take, drop, get_or, refl, sym, ap, ◌∙◌, subst, arith, inl}
use Rattle.std.proofs.lemmas.Bool.{and_parts, ltb-true, true≢false}
use Rattle.std.proofs.lemmas.List.{length-map, length-take, get_or_append_left}
use Rattle.std.proofs.lemmas.List.Elements.{All-head, All-tail, All-nil}
use Rattle.httparse.specs.Grammar as Grammar
use Rattle.httparse.specs.Grammar.{AllPass, is_token_byte, is_uri_byte, LineEnd, print_end, print_blank, print_version, print_section}
use Rattle.httparse.specs.Grammar.{ReadsRequest, print_request, HasNoRequest, NeverHasRequest, ReadsResponse, print_response, status_code}
use Rattle.httparse.specs.Pieces.{Stops, is_newline}
use Rattle.httparse.specs.Spans.{header_bytes, name_and_value, IsRequestOf}
use Rattle.httparse.specs.declared.spans.HeaderSpan.{HeaderSpan}
use Rattle.httparse.specs.declared.spans.RequestSpans.{RequestSpans}
use Rattle.httparse.proofs.GrammarLemmas.{request_unique, print_request-append}
use Rattle.httparse.proofs.PieceLemmas.{Stops_token, space_ends_token}
use Rattle.lb_proxy.specs.declared.http.fault.Fault.{Fault}
use Rattle.lb_proxy.specs.declared.http.request.RequestHead.{RequestHead}
use Rattle.lb_proxy.specs.declared.http.version.Class.{Class}
use Rattle.lb_proxy.specs.declared.http.version.Class.TheVariants.{Newline, Token, Target}
use Rattle.lb_proxy.specs.Http.Heads.{HasStrictFeeds, IsRequest}
use Rattle.lb_proxy.specs.Http.Refusals.{passes, behind, behind_space, behind_word, version_part, is_other_version, names_other_version}
use Rattle.lb_proxy.specs.Internal.RefusedSpans.{AreStrict, RefusesAt, spans_ask_more}
use Rattle.lb_proxy.specs.Http.Refusals.{head_asks_more, IsWithinLimits, IsMalformed, Refuses}

-- ---- what is behind a part of a request line goes on as the bytes do, once it has begun

behind_more : (class : Class) (text more : List ℕ) (b : ℕ) (tail : List ℕ) → behind class text ≡ b ∷ tail
    → behind class (text ++ more) ≡ b ∷ (tail ++ more)
behind_more class [] more b tail is = absurd (cc)
behind_more class (x ∷ text) more b tail is = by (passes class x) refl (behind_more class text more b tail)
  where
    by : (p : Bool) → passes class x ≡ p → (behind class text ≡ b ∷ tail → behind class (text ++ more) ≡ b ∷ (tail ++ more))
        → behind class ((x ∷ text) ++ more) ≡ b ∷ (tail ++ more)
    by true holds next =
        let inner : behind class text ≡ b ∷ tail =
        sym (ap (λ (p : Bool). cond p (behind class text) (x ∷ text)) holds) ∙ is in
        ap (λ (p : Bool). cond p (behind class (text ++ more)) (x ∷ (text ++ more))) holds ∙ next inner
    by false fails next =
        let same : x ∷ text ≡ b ∷ tail = sym (ap (λ (p : Bool). cond p (behind class text) (x ∷ text)) fails) ∙ is in
        ap (λ (p : Bool). cond p (behind class (text ++ more)) (x ∷ (text ++ more))) fails ∙ ap (λ (l : List ℕ). l ++ more) same

space_more : (text more : List ℕ) (b : ℕ) (tail : List ℕ) → behind_space text ≡ b ∷ tail → behind_space (text ++ more) ≡ b ∷ (tail ++ more)
space_more [] more b tail is = absurd (cc)
space_more (x ∷ text) more b tail is = by (x == 32) refl
  where
    by : (p : Bool) → (x == 32) ≡ p → behind_space ((x ∷ text) ++ more) ≡ b ∷ (tail ++ more)
    by true holds =
        let inner : text ≡ b ∷ tail = sym (ap (λ (p : Bool). cond p text []) holds) ∙ is in
        ap (λ (p : Bool). cond p (text ++ more) []) holds ∙ ap (λ (l : List ℕ). l ++ more) inner
    by false fails = let none : [] ≡ b ∷ tail = sym (ap (λ (p : Bool). cond p text []) fails) ∙ is in absurd (cc)

word_more : (class : Class) (text more : List ℕ) (b : ℕ) (tail : List ℕ) → behind_word class text ≡ b ∷ tail
    → behind_word class (text ++ more) ≡ b ∷ (tail ++ more)
word_more class [] more b tail is = absurd (cc)
word_more class (x ∷ text) more b tail is = by (passes class x) refl
  where
    inside : (u : List ℕ) → behind class (x ∷ text) ≡ u → behind_space u ≡ b ∷ tail
        → behind_space (behind class ((x ∷ text) ++ more)) ≡ b ∷ (tail ++ more)
    inside [] at here = absurd (cc)
    inside (y ∷ u) at here = ap behind_space (behind_more class (x ∷ text) more y u at) ∙ space_more (y ∷ u) more b tail here

    by : (p : Bool) → passes class x ≡ p → behind_word class ((x ∷ text) ++ more) ≡ b ∷ (tail ++ more)
    by true holds =
        let here : behind_space (behind class (x ∷ text)) ≡ b ∷ tail =
        sym (ap (λ (p : Bool). cond p (behind_space (behind class (x ∷ text))) []) holds) ∙ is in
        ap (λ (p : Bool). cond p (behind_space (behind class ((x ∷ text) ++ more))) []) holds
        ∙ inside (behind class (x ∷ text)) refl here
    by false fails =
        let none : [] ≡ b ∷ tail = sym (ap (λ (p : Bool). cond p (behind_space (behind class (x ∷ text))) []) fails) ∙ is in
        absurd (cc)

part_more : (bytes more line target : List ℕ) (b : ℕ) (tail : List ℕ) → behind Newline bytes ≡ line → behind_word Token line ≡ target
    → behind_word Target target ≡ b ∷ tail → version_part (bytes ++ more) ≡ b ∷ (tail ++ more)
part_more bytes more line [] b tail at named is = absurd (cc)
part_more bytes more [] (y ∷ target) b tail at named is = absurd (cc)
part_more bytes more (x ∷ line) (y ∷ target) b tail at named is =
    ap (λ (l : List ℕ). behind_word Target (behind_word Token l)) (behind_more Newline bytes more x line at)
    ∙ ap (behind_word Target) (word_more Token (x ∷ line) more y target named)
    ∙ word_more Target (y ∷ target) more b tail is

-- ---- where a head of the grammar has its version

run_behind : (class : Class) (run rest : List ℕ) → AllPass (passes class) run → Stops (passes class) rest
    → behind class (run ++ rest) ≡ rest
run_behind class [] [] pass stops = absurd stops
run_behind class [] (b ∷ rest) pass stops = ap (λ (p : Bool). cond p (behind class rest) (b ∷ rest)) stops
run_behind class (x ∷ run) rest pass stops =
    ap (λ (p : Bool). cond p (behind class (run ++ rest)) (x ∷ (run ++ rest)))
    (All-head (λ v. passes class v ≡ true) x run pass)
    ∙ run_behind class run rest (All-tail (λ v. passes class v ≡ true) x run pass) stops

word_behind : (class : Class) (word rest : List ℕ) → 0 < length word → AllPass (passes class) word → passes class 32 ≡ false
    → behind_word class (word ++ 32 ∷ rest) ≡ rest
word_behind class [] rest some pass ends = absurd (omega arith)
word_behind class (x ∷ word) rest some pass ends =
    ap (λ (p : Bool). cond p (behind_space (behind class (x ∷ (word ++ 32 ∷ rest)))) [])
    (All-head (λ v. passes class v ≡ true) x word pass)
    ∙ ap behind_space (run_behind class (x ∷ word) (32 ∷ rest) pass ends)

blank_behind : (ends : List LineEnd) (rest : List ℕ) → Stops is_newline rest → behind Newline (print_blank ends ++ rest) ≡ rest
blank_behind [] rest stops = run_behind Newline [] rest (All-nil (λ v. passes Newline v ≡ true)) stops
blank_behind (LineEnd.crlf ∷ ends) rest stops = blank_behind ends rest stops
blank_behind (LineEnd.lf ∷ ends) rest stops = blank_behind ends rest stops

-- what is behind the version
abbrev behind_version : Grammar.RequestHead → List ℕ → List ℕ
behind_version h rest = print_end h.line_end ++ (print_section h.fields h.last ++ rest)

reads_part : (text : List ℕ) (h : Grammar.RequestHead) (rest : List ℕ) → ReadsRequest text h rest
    → version_part text ≡ print_version h.minor ++ behind_version h rest
reads_part text h rest reads =
    let version = print_version h.minor ++ behind_version h rest in
    let target = h.target ++ 32 ∷ version in
    let line = h.method ++ 32 ∷ target in
    let is : text ≡ print_blank h.blank ++ line = reads.1 ∙ print_request-append h rest in
    let begun = Stops_token h.method (32 ∷ target) reads.0.method.0 reads.0.method.1 in
    ap (λ (l : List ℕ). behind_word Target (behind_word Token l)) (ap (behind Newline) is ∙ blank_behind h.blank line begun)
    ∙ ap (behind_word Target) (word_behind Token h.method target reads.0.method.0 reads.0.method.1 space_ends_token)
    ∙ word_behind Target h.target version reads.0.target.0 reads.0.target.1 refl

other_clash : (text more rest : List ℕ) (minor : ℕ) → minor ≤ 1 → is_other_version text ≡ true
    → text ++ more ≡ print_version minor ++ rest → ⊥
unfolding is_other_version
other_clash text more rest minor small other is =
    let whole = and_parts _ _ other in
    let few = (and_parts _ _ (and_parts _ _ (and_parts _ _ (and_parts _ _ (and_parts _ _ whole.0).0).0).0).0).0 in
    let long : 8 < length text = ltb-true 8 (length text) few in
    let major_at : get_or text 5 0 ≡ 49 =
    sym (get_or_append_left text more 0 5 (omega arith)) ∙ ap (λ (l : List ℕ). get_or l 5 0) is in
    let minor_at : get_or text 7 0 ≡ 48 + minor =
    sym (get_or_append_left text more 0 7 (omega arith)) ∙ ap (λ (l : List ℕ). get_or l 7 0) is in
    clash (get_or text 5 0) (get_or text 7 0) minor small major_at minor_at whole.1
  where
    clash : (a b minor : ℕ) → minor ≤ 1 → a ≡ 49 → b ≡ 48 + minor → not (a == 49 && (b == 48 || b == 49)) ≡ true → ⊥
    clash a b zero small one zeroth fails =
        true≢false (sym fails ∙ ap (λ (v : ℕ). not (v == 49 && (b == 48 || b == 49))) one
        ∙ ap (λ (v : ℕ). not (v == 48 || v == 49)) zeroth)
    clash a b (suc zero) small one first fails =
        true≢false (sym fails ∙ ap (λ (v : ℕ). not (v == 49 && (b == 48 || b == 49))) one
        ∙ ap (λ (v : ℕ). not (v == 48 || v == 49)) first)
    clash a b (suc (suc minor)) small one other fails = absurd (omega arith)

other_none : is_other_version [] ≡ false
unfolding is_other_version
other_none = refl

never_other : (bytes more : List ℕ) (h : Grammar.RequestHead) (rest : List ℕ) → names_other_version bytes ≡ true
    → ¬ (ReadsRequest (bytes ++ more) h rest)
never_other bytes more h rest other reads = by (version_part bytes) refl other
  where
    by : (v : List ℕ) → version_part bytes ≡ v → is_other_version v ≡ true → ⊥
    by [] at named = true≢false (sym named ∙ other_none)
    by (b ∷ tail) at named =
        let far : version_part (bytes ++ more) ≡ b ∷ (tail ++ more) =
        part_more bytes more (behind Newline bytes) (behind_word Token (behind Newline bytes)) b tail refl refl at in
        other_clash (b ∷ tail) more (behind_version h rest) h.minor reads.0.minor named (sym far ∙ reads_part (bytes ++ more) h rest reads)

pub never_newer : (bytes more : List ℕ) → names_other_version bytes ≡ true → (head : RequestHead) → ¬ (IsRequest (bytes ++ more) head)
never_newer bytes more other head is = never_other bytes more is.parsed _ other is.reads

-- ---- a whole head

module _ (bytes : List ℕ) (spans : List HeaderSpan) (found : RequestSpans) (parsed : IsRequestOf bytes spans found)
    (room : length spans ≤ 100) where
  some_fields : 0 < found.headers → found.headers ≤ length spans → 0 < length parsed.0.fields
  some_fields some fits =
      let len : length (take found.headers spans) ≡ length parsed.0.fields =
      sym (length-map (take found.headers spans) (header_bytes bytes)) ∙ ap length parsed.1.fields
      ∙ length-map parsed.0.fields name_and_value in
      omega (arith, len, length-take found.headers spans)

  few_parsed : length parsed.0.fields ≤ 100
  few_parsed =
      let len : length (take found.headers spans) ≡ length parsed.0.fields =
      sym (length-map (take found.headers spans) (header_bytes bytes)) ∙ ap length parsed.1.fields
      ∙ length-map parsed.0.fields name_and_value in
      omega (arith, len, length-take found.headers spans)

  within : AreStrict bytes found.len → IsWithinLimits bytes parsed.0
  within strict = record {
    rest = drop found.len bytes;
    reads = parsed.1.reads;
    short = subst (λ (n : ℕ). n ≤ 65536) parsed.1.len strict.0;
    few = few_parsed;
    strict = subst (λ (n : ℕ). HasStrictFeeds (take n bytes)) parsed.1.len strict.1;
  }

  asks_same : spans_ask_more bytes spans found ≡ head_asks_more parsed.0
  asks_same =
      let at = parsed.1 in
      rw (at.version, at.fields, at.method) refl

  is_parsed : (other : Grammar.RequestHead) (rest : List ℕ) → ReadsRequest bytes other rest → parsed.0 ≡ other
  is_parsed other rest reads = (request_unique bytes parsed.0 other _ _ parsed.1.reads reads).0

  malformed : names_other_version bytes ≡ false → found.len ≤ 65536 → (AreStrict bytes found.len → spans_ask_more bytes spans found ≡ false)
      → IsMalformed bytes
  malformed other short asks = record {
    other = other;
    short = λ h rest reads. subst (λ (n : ℕ). n ≤ 65536)
        (parsed.1.len ∙ ap (λ (k : Grammar.RequestHead). length (print_request k)) (is_parsed h rest reads)) short;
    few = λ h rest reads. subst (λ (k : Grammar.RequestHead). length k.fields ≤ 100) (is_parsed h rest reads) few_parsed;
    plain = λ h is.
        let same = is_parsed h is.rest is.reads in
        let len : found.len ≡ length (print_request h) =
        parsed.1.len ∙ ap (λ (k : Grammar.RequestHead). length (print_request k)) same in
        let strict : AreStrict bytes found.len = (short, subst (λ (n : ℕ). HasStrictFeeds (take n bytes)) (sym len) is.strict) in
        sym (ap head_asks_more same) ∙ sym asks_same ∙ asks strict;
    never = λ long none. absurd (none parsed.0 (drop found.len bytes) parsed.1.reads);
  }

  pub why_whole : found.headers ≤ length spans → names_other_version bytes ≡ false → (fault : Fault) → RefusesAt bytes spans found fault
      → Refuses bytes fault
  why_whole fits other Fault.BadRequest why = malformed other why.0 why.1
  why_whole fits other Fault.RequestTimeout why = absurd why
  why_whole fits other Fault.HeadTooLarge why =
      inl (parsed.0, drop found.len bytes, parsed.1.reads, subst (λ (n : ℕ). 65536 < n) parsed.1.len why)
  why_whole fits other Fault.NotImplemented why = (parsed.0, within why.0, sym asks_same ∙ why.1)
  why_whole fits other Fault.BadGateway why = absurd why
  why_whole fits other Fault.Unavailable why = (parsed.0, within why.0, some_fields why.1 fits)
  why_whole fits other Fault.GatewayTimeout why = absurd why
  why_whole fits other Fault.VersionNotSupported why = absurd why
