-- Lemmas on the line feeds of a head: one ends each of its lines, so they count the fields of a head that isn't whole; an empty line
-- makes such a head whole.
use Rattle.std.proofs.Common.{◌≡◌, ◌≢◌, ℕ, suc, ◌+◌, ◌<◌, ◌≤◌, ◌⊎◌, inl, inr, ◌==◌, cond, List, []}
use Rattle.std.proofs.Common.{◌∷◌, ◌++◌, Option, None, Some, codes, All}
use Rattle.std.proofs.Common.{length, refl, sym, ap, ◌∙◌, append_assoc, append-nil, length-append, arith}
use Rattle.std.specs.List.{flat_map}
use Rattle.std.specs.Char.{is_ascii_digit}
use Rattle.std.proofs.lemmas.Bool.{cases_Bool, cases_lt, ne_eqb}
use Rattle.std.proofs.lemmas.List.Elements.{All-cons, All-nil}
use Rattle.httparse.specs.Grammar.{LineEnd, lf, crlf, print_end, print_blank, print_version, print_reason, reason_phrase, print_section}
use Rattle.httparse.specs.Grammar.{Field, IsField, print_field, is_token_byte, is_value_byte, AllPass}
use Rattle.httparse.specs.Grammar.{ResponseHead, IsResponseHead, print_response, ReadsResponse, HasNoResponse, MayBecomeResponse}
use Rattle.httparse.proofs.GrammarLemmas.{print_response-append}
use Rattle.lb_health_http.specs.Chunked.{NoFeed, IsLineText}
use Rattle.lb_health_http.specs.Head.{IsBlankLine, MayBecomeHead, HasManyFields}
use Rattle.lb_health_http.proofs.LineLemmas.{NoFeed-append, clear_of}
use Rattle.lb_health_http.proofs.HeadLemmas.{head_ends, last_cases, push_same}

-- how many of the bytes are line feeds
abbrev pub feeds : List ℕ → ℕ
feeds [] = 0
feeds (b ∷ bytes) = cond (b == 10) (1 + feeds bytes) (feeds bytes)

feeds-append : (a b : List ℕ) → feeds (a ++ b) ≡ feeds a + feeds b
feeds-append [] b = omega arith
feeds-append (x ∷ a) b = elim (cases_Bool (x == 10)) [
  | inl feed ↦ rw feed (omega (arith, feeds-append a b))
  | inr other ↦ rw other (feeds-append a b)
]

feeds_clear : (a : List ℕ) → NoFeed a → feeds a ≡ 0
feeds_clear [] clear = refl
feeds_clear (x ∷ a) clear = rw (ne_eqb x 10 clear.0) (feeds_clear a clear.1)

-- a line has one
feeds_line : (line : List ℕ) → IsLineText line → feeds line ≡ 1
feeds_line line p =
    let one : feeds (10 ∷ []) ≡ 1 = refl in
    omega (arith, ap feeds p.is, feeds-append p.front (10 ∷ []), feeds_clear p.front p.clear, one)

pub feeds_push : (bytes : List ℕ) (b : ℕ) → b ≢ 10 → feeds (bytes ++ b ∷ []) ≡ feeds bytes
feeds_push bytes b other = omega (arith, feeds-append bytes (b ∷ []), feeds_clear (b ∷ []) (other, tt))

pub feeds_feed : (bytes : List ℕ) (b : ℕ) → b ≡ 10 → feeds (bytes ++ b ∷ []) ≡ feeds bytes + 1
feeds_feed bytes b feed =
    let one : feeds (10 ∷ []) ≡ 1 = refl in
    omega (arith, ap (λ (x : ℕ). feeds (bytes ++ x ∷ [])) feed, feeds-append bytes (10 ∷ []), one)

pub feeds_blank : (line : List ℕ) → IsBlankLine line → feeds line ≡ 0
feeds_blank line (inl none) = ap feeds none
feeds_blank line (inr cr) = ap feeds cr

-- ---- bytes that don't begin with an empty line

pub record BeginsWithText (bytes : List ℕ) : Type 0 where
  pub no_feed : (rest : List ℕ) → bytes ≢ 10 ∷ rest
  pub no_crlf : (rest : List ℕ) → bytes ≢ 13 ∷ 10 ∷ rest

pub text_nil : BeginsWithText []
text_nil = record { no_feed = λ rest e. cc; no_crlf = λ rest e. cc }

-- more bytes leave it so where there are two already
text_more : (x y : ℕ) (bytes more : List ℕ) → BeginsWithText (x ∷ y ∷ bytes) → BeginsWithText (x ∷ y ∷ (bytes ++ more))
text_more x y bytes more t = record {
  no_feed = λ rest e. let heads : x ≡ 10 = cc in t.no_feed (y ∷ bytes) (ap (λ (n : ℕ). n ∷ y ∷ bytes) heads);
  no_crlf = λ rest e.
      let heads : x ≡ 13 = cc in
      let seconds : y ≡ 10 = cc in
      t.no_crlf bytes (ap (λ (n : ℕ). n ∷ y ∷ bytes) heads ∙ ap (λ (n : ℕ). 13 ∷ n ∷ bytes) seconds);
}

pub text_push : (bytes : List ℕ) (b : ℕ) → BeginsWithText bytes → b ≢ 10 → BeginsWithText (bytes ++ b ∷ [])
text_push [] b t other = record { no_feed = λ rest e. other (cc); no_crlf = λ rest e. cc }
text_push (x ∷ []) b t other = record {
  no_feed = λ rest e. let heads : x ≡ 10 = cc in t.no_feed [] (ap (λ (n : ℕ). n ∷ []) heads);
  no_crlf = λ rest e. other (cc);
}
text_push (x ∷ y ∷ bytes) b t other = text_more x y bytes (b ∷ []) t

pub text_feed : (bytes : List ℕ) → BeginsWithText bytes → (IsBlankLine bytes → ⊥) → BeginsWithText (bytes ++ 10 ∷ [])
text_feed [] t full = absurd (full (inl refl))
text_feed (x ∷ []) t full = record {
  no_feed = λ rest e. let heads : x ≡ 10 = cc in t.no_feed [] (ap (λ (n : ℕ). n ∷ []) heads);
  no_crlf = λ rest e. let heads : x ≡ 13 = cc in full (inr (ap (λ (n : ℕ). n ∷ []) heads));
}
text_feed (x ∷ y ∷ bytes) t full = text_more x y bytes (10 ∷ []) t

one_feed : (x : ℕ) (f : List ℕ) → x ∷ [] ≡ f ++ 10 ∷ [] → x ≡ 10
one_feed x [] e = cc
one_feed x (y ∷ f) e = omega (arith, ap length e, length-append f (10 ∷ []))

-- so no head that they begin has empty lines in front
no_blank : (bytes f more t : List ℕ) (ends : List LineEnd) → BeginsWithText bytes → bytes ≡ f ++ 10 ∷ []
    → bytes ++ more ≡ print_blank ends ++ t → ends ≡ []
no_blank bytes f more t [] text last e = refl
no_blank [] f more t (end ∷ ends) text last e = absurd (omega (arith, ap length last, length-append f (10 ∷ [])))
no_blank (x ∷ bytes) f more t (lf ∷ ends) text last e =
    let heads : x ≡ 10 = cc in absurd (text.no_feed bytes (ap (λ (n : ℕ). n ∷ bytes) heads))
no_blank (x ∷ []) f more t (crlf ∷ ends) text last e =
    let heads : x ≡ 13 = cc in
    let feed = one_feed x f last in
    absurd (omega (arith, heads, feed))
no_blank (x ∷ y ∷ bytes) f more t (crlf ∷ ends) text last e =
    let heads : x ≡ 13 = cc in
    let seconds : y ≡ 10 = cc in
    absurd (text.no_crlf bytes (ap (λ (n : ℕ). n ∷ y ∷ bytes) heads ∙ ap (λ (n : ℕ). 13 ∷ n ∷ bytes) seconds))

-- ---- the lines of a head

line_at : (line m : List ℕ) → (p : IsLineText line) → line ++ m ≡ p.front ++ 10 ∷ m
line_at line m p = ap (λ (l : List ℕ). l ++ m) p.is ∙ append_assoc p.front (10 ∷ []) m

end_line : (e : LineEnd) → IsLineText (print_end e)
end_line lf = record { front = []; clear = tt; is = refl }
end_line crlf = record { front = 13 ∷ []; clear = ((λ e. cc), tt); is = refl }

-- what a line ends that has other bytes in front
with_front : (a b : List ℕ) → NoFeed a → IsLineText b → IsLineText (a ++ b)
with_front a b clear p = record {
  front = a ++ p.front;
  clear = NoFeed-append a p.front clear p.clear;
  is = ap (λ (l : List ℕ). a ++ l) p.is ∙ sym (append_assoc a p.front (10 ∷ []));
}

field_line : (d : Field) → IsField d → IsLineText (print_field d)
unfolding is_token_byte
field_line d p =
    with_front (d.name ++ 58 ∷ d.raw) (print_end d.end)
    (NoFeed-append d.name (58 ∷ d.raw) (clear_of is_token_byte d.name refl p.name.1)
    ((λ e. cc), clear_of is_value_byte d.raw refl p.raw)) (end_line d.end)

-- the start line
abbrev start_text : ResponseHead → List ℕ
start_text h = print_version h.minor ++ (32 ∷ (h.digits ++ (print_reason h.reason ++ print_end h.line_end)))

reason_line : (reason : Option (List ℕ)) (e : LineEnd) → AllPass is_value_byte (reason_phrase reason)
    → IsLineText (print_reason reason ++ print_end e)
reason_line None e p = end_line e
reason_line (Some phrase) e p =
    with_front (32 ∷ phrase) (print_end e) ((λ e. cc), clear_of is_value_byte phrase refl p) (end_line e)

start_line : (h : ResponseHead) → IsResponseHead h → IsLineText (start_text h)
start_line h p =
    let minor = p.minor in
    let other : 48 + h.minor ≢ 10 = λ e. omega (arith, e) in
    let clear : NoFeed (print_version h.minor) =
    NoFeed-append (codes "HTTP/1.") ((48 + h.minor) ∷ [])
    ((λ e. cc), ((λ e. cc), ((λ e. cc), ((λ e. cc), ((λ e. cc), ((λ e. cc), ((λ e. cc), tt))))))) (other, tt) in
    with_front (print_version h.minor) (32 ∷ (h.digits ++ (print_reason h.reason ++ print_end h.line_end))) clear
    (with_front (32 ∷ []) (h.digits ++ (print_reason h.reason ++ print_end h.line_end)) ((λ e. cc), tt)
    (with_front h.digits (print_reason h.reason ++ print_end h.line_end) (clear_of is_ascii_digit h.digits refl p.digits.1)
    (reason_line h.reason h.line_end p.reason)))

-- a head without empty lines in front is its start line, its fields and an empty line
head_is : (h : ResponseHead) (rest : List ℕ) → h.blank ≡ []
    → print_response h ++ rest ≡ start_text h ++ (flat_map print_field h.fields ++ (print_end h.last ++ rest))
head_is h rest blank =
    let section = print_section h.fields h.last ++ rest in
    let reason = print_reason h.reason in
    let end = print_end h.line_end in
    print_response-append h rest
    ∙ ap (λ (ends : List LineEnd). print_blank ends
    ++ (print_version h.minor ++ (32 ∷ (h.digits ++ (reason ++ (end ++ section)))))) blank
    ∙ ap (λ (l : List ℕ). print_version h.minor ++ (32 ∷ (h.digits ++ l))) (sym (append_assoc reason end section))
    ∙ ap (λ (l : List ℕ). print_version h.minor ++ (32 ∷ l)) (sym (append_assoc h.digits (reason ++ end) section))
    ∙ sym (append_assoc (print_version h.minor) (32 ∷ (h.digits ++ (reason ++ end))) section)
    ∙ ap (λ (l : List ℕ). start_text h ++ l) (append_assoc (flat_map print_field h.fields) (print_end h.last) rest)

feeds_fields : (fields : List Field) → All IsField fields → feeds (flat_map print_field fields) ≡ length fields
feeds_fields [] valid = refl
feeds_fields (d ∷ fields) valid =
    let first : IsField d = valid 0 d (omega arith) in
    let others : All IsField fields = λ k x h. valid (suc k) x (omega arith) in
    omega (
      arith,
      feeds-append (print_field d) (flat_map print_field fields),
      feeds_line (print_field d) (field_line d first),
      feeds_fields fields others,
    )

feeds_head : (h : ResponseHead) → IsResponseHead h → h.blank ≡ [] → feeds (print_response h) ≡ 2 + length h.fields
feeds_head h p blank =
    let start = start_text h in
    let fields = flat_map print_field h.fields in
    let end = print_end h.last ++ [] in
    let is = sym (append-nil (print_response h)) ∙ head_is h [] blank in
    omega (
      arith,
      ap feeds is,
      feeds-append start (fields ++ end),
      feeds-append fields end,
      feeds_line start (start_line h p),
      feeds_fields h.fields p.fields,
      ap feeds (append-nil (print_end h.last)),
      feeds_line (print_end h.last) (end_line h.last),
    )

-- ---- a head that isn't whole at a line feed

-- a text that ends in a line feed, and a line that it begins with: they are the same, or more lines follow that line in the text
peel_line : (f more line r : List ℕ) → NoFeed line → (f ++ 10 ∷ []) ++ more ≡ line ++ 10 ∷ r
    → (f ≡ line) ⊎ ((g : List ℕ) × (f ≡ line ++ 10 ∷ g) × ((g ++ 10 ∷ []) ++ more ≡ r))
peel_line [] more [] r clear e = inl refl
peel_line [] more (y ∷ line) r clear e = absurd (clear.0 (cc))
peel_line (x ∷ f) more [] r clear e =
    let heads : x ≡ 10 = cc in
    let tails : (f ++ 10 ∷ []) ++ more ≡ r = cc in
    inr (f, ap (λ (y : ℕ). y ∷ f) heads, tails)
peel_line (x ∷ f) more (y ∷ line) r clear e =
    let tails : (f ++ 10 ∷ []) ++ more ≡ line ++ 10 ∷ r = cc in
    let heads : x ≡ y = cc in
    elim (peel_line f more line r clear.1 tails) [
      | inl same ↦ inl (cc)
      | inr p ↦ let split : f ≡ line ++ 10 ∷ p.0 = p.1 in inr (p.0, cc, p.2)
    ]

-- the fields up to a line feed
record CutFields (f : List ℕ) : Type 0 where
  pub fields : List Field
  pub valid : All IsField fields
  pub is : f ++ 10 ∷ [] ≡ flat_map print_field fields

cut_fields : (fields : List Field) (last : LineEnd) (f more r : List ℕ) → All IsField fields
    → (f ++ 10 ∷ []) ++ more ≡ flat_map print_field fields ++ (print_end last ++ r)
    → ((g : List ℕ) → f ++ 10 ∷ [] ≡ flat_map print_field fields ++ (print_end last ++ g) → ⊥) → CutFields f
cut_fields [] last f more r valid e none =
    let p = end_line last in
    elim (peel_line f more p.front r p.clear (e ∙ line_at (print_end last) r p)) [
      | inl same ↦ absurd (none []
          (ap (λ (l : List ℕ). l ++ 10 ∷ []) same ∙ sym p.is ∙ sym (append-nil (print_end last))))
      | inr q ↦ absurd (none (q.0 ++ 10 ∷ [])
          (ap (λ (l : List ℕ). l ++ 10 ∷ []) q.1 ∙ append_assoc p.front (10 ∷ q.0) (10 ∷ [])
          ∙ sym (line_at (print_end last) (q.0 ++ 10 ∷ []) p)))
    ]
cut_fields (d ∷ fields) last f more r valid e none =
    let first : IsField d = valid 0 d (omega arith) in
    let others : All IsField fields = λ k x h. valid (suc k) x (omega arith) in
    let p = field_line d first in
    let tail = flat_map print_field fields ++ (print_end last ++ r) in
    let moved : (f ++ 10 ∷ []) ++ more ≡ print_field d ++ tail =
    e ∙ append_assoc (print_field d) (flat_map print_field fields) (print_end last ++ r) in
    elim (peel_line f more p.front tail p.clear (moved ∙ line_at (print_field d) tail p)) [
      | inl same ↦ record {
        fields = d ∷ [];
        valid = All-cons IsField d [] first (All-nil IsField);
        is = ap (λ (l : List ℕ). l ++ 10 ∷ []) same ∙ sym p.is ∙ sym (append-nil (print_field d));
      }
      | inr q ↦
          let grown : f ++ 10 ∷ [] ≡ print_field d ++ (q.0 ++ 10 ∷ []) =
          ap (λ (l : List ℕ). l ++ 10 ∷ []) q.1 ∙ append_assoc p.front (10 ∷ q.0) (10 ∷ [])
          ∙ sym (line_at (print_field d) (q.0 ++ 10 ∷ []) p) in
          let cut = cut_fields fields last q.0 more r others q.2 (λ g same. none g
          (grown ∙ ap (λ (l : List ℕ). print_field d ++ l) same
          ∙ sym (append_assoc (print_field d) (flat_map print_field fields) (print_end last ++ g)))) in
          record {
            fields = d ∷ cut.fields;
            valid = All-cons IsField d cut.fields first cut.valid;
            is = grown ∙ ap (λ (l : List ℕ). print_field d ++ l) cut.is;
          }
    ]

-- the head that an empty line makes of the bytes; each of its fields has a line feed in them, and the start line has one
record CutHead (bytes : List ℕ) : Type 0 where
  pub head : ResponseHead
  pub reads : ReadsResponse (bytes ++ 10 ∷ []) head []
  pub counted : feeds bytes ≡ 1 + length head.fields

cut_at : (bytes : List ℕ) (h : ResponseHead) (fields : List Field) → IsResponseHead h → All IsField fields
    → bytes ≡ start_text h ++ flat_map print_field fields → CutHead bytes
cut_at bytes h fields p valid is =
    let k : ResponseHead = record h { blank = []; fields = fields; last = lf } in
    let lines = flat_map print_field fields in
    record {
      head = k;
      reads = (
        record { minor = p.minor; digits = p.digits; reason = p.reason; fields = valid },
        ap (λ (l : List ℕ). l ++ 10 ∷ []) is ∙ append_assoc (start_text h) lines (10 ∷ []) ∙ sym (head_is k [] refl),
      );
      counted = omega (
        arith,
        ap feeds is,
        feeds-append (start_text h) lines,
        feeds_line (start_text h) (start_line h p),
        feeds_fields fields valid,
      );
    }

cut_head : (f : List ℕ) → BeginsWithText (f ++ 10 ∷ []) → HasNoResponse (f ++ 10 ∷ []) → MayBecomeResponse (f ++ 10 ∷ [])
    → CutHead (f ++ 10 ∷ [])
cut_head f text none (more, h, reads) =
    let bytes = f ++ 10 ∷ [] in
    let blank = no_blank bytes f more _ h.blank text refl (reads.1 ∙ print_response-append h []) in
    let start = start_text h in
    let fields = flat_map print_field h.fields in
    let section = fields ++ (print_end h.last ++ []) in
    let p = start_line h reads.0 in
    elim (peel_line f more p.front section p.clear (reads.1 ∙ head_is h [] blank ∙ line_at start section p)) [
      | inl same ↦ cut_at bytes h [] reads.0 (All-nil IsField)
          (ap (λ (l : List ℕ). l ++ 10 ∷ []) same ∙ sym p.is ∙ sym (append-nil start))
      | inr q ↦
          let grown : bytes ≡ start ++ (q.0 ++ 10 ∷ []) =
          ap (λ (l : List ℕ). l ++ 10 ∷ []) q.1 ∙ append_assoc p.front (10 ∷ q.0) (10 ∷ [])
          ∙ sym (line_at start (q.0 ++ 10 ∷ []) p) in
          let cut = cut_fields h.fields h.last q.0 more [] reads.0.fields q.2 (λ g same. none h g
          (reads.0, grown ∙ ap (λ (l : List ℕ). start ++ l) same ∙ sym (head_is h g blank))) in
          cut_at bytes h cut.fields reads.0 cut.valid (grown ∙ ap (λ (l : List ℕ). start ++ l) cut.is)
    ]

-- with so few line feeds it has room for a head
pub has_room : (f : List ℕ) → BeginsWithText (f ++ 10 ∷ []) → HasNoResponse (f ++ 10 ∷ []) → MayBecomeResponse (f ++ 10 ∷ [])
    → feeds (f ++ 10 ∷ []) ≤ 65 → MayBecomeHead (f ++ 10 ∷ [])
has_room f text none goes_on few =
    let cut = cut_head f text none goes_on in
    let counted = cut.counted in
    (10 ∷ [], cut.head, cut.reads, omega arith)

-- of two fronts of one text the shorter begins the longer
pub shorter_front : (a b x y : List ℕ) → length b ≤ length a → a ++ x ≡ b ++ y → (z : List ℕ) × (a ≡ b ++ z)
shorter_front a [] x y short e = (a, refl)
shorter_front [] (c ∷ b) x y short e = absurd (omega arith)
shorter_front (d ∷ a) (c ∷ b) x y short e =
    let tails : a ++ x ≡ b ++ y = cc in
    let rest = shorter_front a b x y (omega arith) tails in
    let more : a ≡ b ++ rest.0 = rest.1 in
    let heads : d ≡ c = cc in
    (rest.0, cc)

-- what follows bytes in a head ends in a line feed
feeds_after : (h : ResponseHead) (bytes z : List ℕ) → print_response h ≡ bytes ++ z → length bytes < length (print_response h)
    → 1 ≤ feeds z
feeds_after h bytes z is longer =
    let ends = head_ends h in
    elim (last_cases z) [
      | inl none ↦ absurd (omega (arith, ap length is, length-append bytes z, ap length none, longer))
      | inr some ↦
          let joined : (bytes ++ some.0) ++ some.1 ∷ [] ≡ ends.0 ++ 10 ∷ [] =
          append_assoc bytes some.0 (some.1 ∷ []) ∙ ap (λ (l : List ℕ). bytes ++ l) (sym some.2) ∙ sym is ∙ ends.1 in
          omega (arith, ap feeds some.2, feeds_feed some.0 some.1 (push_same (bytes ++ some.0) ends.0 some.1 10 joined).1)
    ]

-- a head that bytes begin which hold none has a field more than they have line feeds, but for the start line's
overflows : (f more rest : List ℕ) (h : ResponseHead) → BeginsWithText (f ++ 10 ∷ []) → HasNoResponse (f ++ 10 ∷ [])
    → ReadsResponse ((f ++ 10 ∷ []) ++ more) h rest → feeds (f ++ 10 ∷ []) ≤ 1 + length h.fields
overflows f more rest h text none reads =
    let bytes = f ++ 10 ∷ [] in
    let head = print_response h in
    let blank = no_blank bytes f more _ h.blank text refl (reads.1 ∙ print_response-append h rest) in
    elim (cases_lt (length bytes) (length head)) [
      | inl longer ↦
          let z = shorter_front head bytes rest more (omega arith) (sym reads.1) in
          let after = feeds_after h bytes z.0 z.1 longer in
          omega (arith, feeds_head h reads.0 blank, ap feeds z.1, feeds-append bytes z.0, after)
      | inr shorter ↦
          let z = shorter_front bytes head more rest shorter reads.1 in
          absurd (none h z.0 (reads.0, z.1))
    ]

-- with more it has too many fields
pub has_many : (f : List ℕ) → BeginsWithText (f ++ 10 ∷ []) → HasNoResponse (f ++ 10 ∷ []) → MayBecomeResponse (f ++ 10 ∷ [])
    → 65 < feeds (f ++ 10 ∷ []) → HasManyFields (f ++ 10 ∷ [])
has_many f text none goes_on many =
    let bytes = f ++ 10 ∷ [] in
    let cut = cut_head f text none goes_on in
    let counted = cut.counted in
    record {
      exceeds = (bytes, [], sym (append-nil bytes), cut.head, cut.reads, omega arith);
      overflows = λ more h rest reads. let more_than = overflows f more rest h text none reads in omega arith;
    }
