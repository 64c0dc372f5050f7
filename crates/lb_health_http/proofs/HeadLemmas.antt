-- Lemmas on a head that is being read: where it ends, and empty lines in front of it.
use Rattle.std.proofs.Common.{◌≡◌, ◌≢◌, ℕ, ◌+◌, ◌<◌, ◌≤◌, ◌⊎◌, inl, inr, List, [], ◌∷◌, ◌++◌, None, codes, length, drop, refl, sym, ap, ◌∙◌}
use Rattle.std.proofs.Common.{subst, append_assoc, append-nil, length-append, arith}
use Rattle.std.specs.List.{flat_map}
use Rattle.std.proofs.lemmas.Grind.{flat_map-append}
use Rattle.httparse.specs.Grammar.{LineEnd, crlf, lf, print_end, print_blank, print_section, print_field, print_version, print_reason}
use Rattle.httparse.specs.Grammar.{ResponseHead, print_response, ReadsResponse, HasNoResponse}
use Rattle.httparse.proofs.GrammarLemmas.{ReadsResponse-append, print_response-append}
use Rattle.lb_health_http.specs.Head.{BeginsWithHead, IsRefusedHead, IsOpenAtFeeds, HasBadHead, HasLargeHead, EndsInHead}
use Rattle.lb_health_http.specs.Head.{IsBlankLine, AfterBlank, MayBecomeHead}
use Rattle.lb_health_http.specs.Chunked.{NoFeed}
use Rattle.lb_health_http.specs.declared.head.HeadParts.{HeadParts}
use Rattle.std.specs.Char.{is_ascii_digit}
use Rattle.lb_health_http.specs.declared.head.Seen.TheVariants.{Whole, Bad}
use Rattle.lb_health_http.specs.Head.{Sees, IsWholeHead}
use Rattle.lb_health_http.proofs.BodyLemmas.{fronts_same}
use Rattle.std.proofs.lemmas.List.Elements.{All-nil}
use Rattle.std.proofs.lemmas.List.Sums.{AllPass-from_list_all}

-- some bytes, up to their last line feed and behind it; others can follow the first part that make a head
pub record OpenAtLast (bytes : List ℕ) : Type 0 where
  pub front : List ℕ
  pub line : List ℕ
  pub is : bytes ≡ front ++ line
  pub may_go_on : MayBecomeHead front
  pub clear : NoFeed line

-- what is known while a head is read: the bytes since the last empty line hold no whole head, aren't refused at a line feed,
-- and are no more than all that were read
pub record HeadSoFar (bytes : List ℕ) (count : ℕ) : Type 0 where
  pub none : HasNoResponse bytes
  pub may_go_on : OpenAtLast bytes
  pub within : length bytes ≤ count

-- ---- where a head ends

end_is : (e : LineEnd) → (f : List ℕ) × (print_end e ≡ f ++ 10 ∷ [])
end_is crlf = (13 ∷ [], refl)
end_is lf = ([], refl)

-- a head ends in a line feed
pub head_ends : (h : ResponseHead) → (f : List ℕ) × (print_response h ≡ f ++ 10 ∷ [])
unfolding print_response
head_ends h =
    let e = end_is h.last in
    let y = print_blank h.blank ++ print_version h.minor ++ 32 ∷ h.digits ++ print_reason h.reason ++ print_end h.line_end in
    let f = flat_map print_field h.fields in (
      y ++ (f ++ e.0),
      ap (λ (l : List ℕ). y ++ (f ++ l)) e.1 ∙ ap (λ (l : List ℕ). y ++ l) (sym (append_assoc f e.0 (10 ∷ [])))
          ∙ sym (append_assoc y (f ++ e.0) (10 ∷ [])),
    )

-- a list is empty or has a last element
pub last_cases : (xs : List ℕ) → (xs ≡ []) ⊎ ((init : List ℕ) × (x : ℕ) × (xs ≡ init ++ x ∷ []))
last_cases [] = inl refl
last_cases (y ∷ ys) = elim (last_cases ys) [
  | inl none ↦ inr ([], y, ap (λ (l : List ℕ). y ∷ l) none)
  | inr some ↦ inr (y ∷ some.0, some.1, ap (λ (l : List ℕ). y ∷ l) some.2)
]

pub push_same : (a b : List ℕ) (x y : ℕ) → a ++ x ∷ [] ≡ b ++ y ∷ [] → (a ≡ b) × (x ≡ y)
push_same a b x y e =
    let n : length a ≡ length b = omega (arith, ap length e, length-append a (x ∷ []), length-append b (y ∷ [])) in
    let same = fronts_same a b (x ∷ []) (y ∷ []) n e in
    let lasts : x ∷ [] ≡ y ∷ [] = same.1 in
    (same.0, cc)

-- a head that a byte completes ends at that byte
pub whole_or_before : (bytes : List ℕ) (b : ℕ) (h : ResponseHead) (rest : List ℕ) → HasNoResponse bytes
    → ReadsResponse (bytes ++ b ∷ []) h rest → rest ≡ []
whole_or_before bytes b h rest none reads = elim (last_cases rest) [
  | inl e ↦ e
  | inr some ↦
      let joined : bytes ++ b ∷ [] ≡ (print_response h ++ some.0) ++ some.1 ∷ [] =
      reads.1 ∙ ap (λ (l : List ℕ). print_response h ++ l) some.2 ∙ sym (append_assoc (print_response h) some.0 (some.1 ∷ [])) in
      absurd (none h some.0 (reads.0, (push_same bytes (print_response h ++ some.0) b some.1 joined).0))
]

-- no head ends in another byte than a line feed
pub no_response-push : (bytes : List ℕ) (b : ℕ) → HasNoResponse bytes → b ≢ 10 → HasNoResponse (bytes ++ b ∷ [])
no_response-push bytes b none other h rest reads =
    let over = whole_or_before bytes b h rest none reads in
    let ends = head_ends h in
    let joined : bytes ++ b ∷ [] ≡ ends.0 ++ 10 ∷ [] =
    reads.1 ∙ ap (λ (l : List ℕ). print_response h ++ l) over ∙ append-nil (print_response h) ∙ ends.1 in
    other (push_same bytes ends.0 b 10 joined).1

-- nothing is no head
pub no_response-nil : HasNoResponse []
no_response-nil h rest reads =
    let ends = head_ends h in
    omega (arith, ap length reads.1, length-append (print_response h) rest, ap length ends.1, length-append ends.0 (10 ∷ []))

-- ---- empty lines in front of a head

-- the head with more empty lines in front
abbrev pub with_blank : List LineEnd → ResponseHead → ResponseHead
with_blank ends h = record h { blank = ends ++ h.blank }

-- what follows the empty lines
abbrev start_of : ResponseHead → List ℕ → List ℕ
start_of h rest =
    print_version h.minor ++ 32 ∷ (h.digits ++ (print_reason h.reason
    ++ (print_end h.line_end ++ (print_section h.fields h.last ++ rest))))

pub print-with_blank : (ends : List LineEnd) (h : ResponseHead) (rest : List ℕ)
    → print_response (with_blank ends h) ++ rest ≡ print_blank ends ++ (print_response h ++ rest)
print-with_blank ends h rest =
    print_response-append (with_blank ends h) rest
    ∙ ap (λ (l : List ℕ). l ++ start_of h rest) (flat_map-append print_end ends h.blank)
    ∙ append_assoc (print_blank ends) (print_blank h.blank) (start_of h rest)
    ∙ ap (λ (l : List ℕ). print_blank ends ++ l) (sym (print_response-append h rest))

pub reads_with_blank : (ends : List LineEnd) (bytes : List ℕ) (h : ResponseHead) (rest : List ℕ) → ReadsResponse bytes h rest
    → ReadsResponse (print_blank ends ++ bytes) (with_blank ends h) rest
reads_with_blank ends bytes h rest reads = (
  record { minor = reads.0.minor; digits = reads.0.digits; reason = reads.0.reason; fields = reads.0.fields },
  ap (λ (l : List ℕ). print_blank ends ++ l) reads.1 ∙ sym (print-with_blank ends h rest),
)

-- texts that are the same begin with the same byte, and go on in the same way
first_same : (x y : ℕ) (xs ys : List ℕ) → x ∷ xs ≡ y ∷ ys → x ≡ y
first_same x y xs ys e = cc

rest_same : (x y : ℕ) (xs ys : List ℕ) → x ∷ xs ≡ y ∷ ys → xs ≡ ys
rest_same x y xs ys e = cc

-- an empty line in front of a start line is one of the head's
peel_end : (e : LineEnd) (bytes : List ℕ) (bs : List LineEnd) (t : List ℕ) → print_end e ++ bytes ≡ print_blank bs ++ 72 ∷ t
    → (cs : List LineEnd) × (bytes ≡ print_blank cs ++ 72 ∷ t)
peel_end lf bytes [] t e = absurd (omega (arith, first_same 10 72 _ _ e))
peel_end crlf bytes [] t e = absurd (omega (arith, first_same 13 72 _ _ e))
peel_end lf bytes (lf ∷ bs) t e = (bs, rest_same 10 10 _ _ e)
peel_end lf bytes (crlf ∷ bs) t e = absurd (omega (arith, first_same 10 13 _ _ e))
peel_end crlf bytes (lf ∷ bs) t e = absurd (omega (arith, first_same 13 10 _ _ e))
peel_end crlf bytes (crlf ∷ bs) t e = (bs, rest_same 10 10 _ _ (rest_same 13 13 _ _ e))

-- the head without empty lines in front
pub record Unblank (bytes : List ℕ) (h : ResponseHead) (rest : List ℕ) : Type 0 where
  pub head : ResponseHead
  pub reads : ReadsResponse bytes head rest
  pub fields : head.fields ≡ h.fields
  pub digits : head.digits ≡ h.digits

unblank_one : (e : LineEnd) (bytes : List ℕ) (h : ResponseHead) (rest : List ℕ) → ReadsResponse (print_end e ++ bytes) h rest
    → Unblank bytes h rest
unblank_one e bytes h rest reads =
    let is : print_end e ++ bytes ≡ print_blank h.blank ++ start_of h rest = reads.1 ∙ print_response-append h rest in
    let p = peel_end e bytes h.blank _ is in
    let k : ResponseHead = record h { blank = p.0 } in
    record {
      head = k;
      reads = (
        record { minor = reads.0.minor; digits = reads.0.digits; reason = reads.0.reason; fields = reads.0.fields },
        p.1 ∙ sym (print_response-append k rest),
      );
      fields = refl;
      digits = refl;
    }

pub unblank : (ends : List LineEnd) (bytes : List ℕ) (h : ResponseHead) (rest : List ℕ)
    → ReadsResponse (print_blank ends ++ bytes) h rest → Unblank bytes h rest
unblank [] bytes h rest reads = record { head = h; reads = reads; fields = refl; digits = refl }
unblank (e ∷ es) bytes h rest reads =
    let moved : ReadsResponse (print_end e ++ (print_blank es ++ bytes)) h rest =
    (reads.0, sym (append_assoc (print_end e) (print_blank es) bytes) ∙ reads.1) in
    let one = unblank_one e (print_blank es ++ bytes) h rest moved in
    let all = unblank es bytes one.head rest one.reads in
    record { head = all.head; reads = all.reads; fields = all.fields ∙ one.fields; digits = all.digits ∙ one.digits }

no_blank_response : (ends : List LineEnd) (bytes : List ℕ) → HasNoResponse bytes → HasNoResponse (print_blank ends ++ bytes)
no_blank_response ends bytes none h rest reads =
    let u = unblank ends bytes h rest reads in
    none u.head rest u.reads

-- ---- what the line feeds of a head that is being read say of it

no_feed_in : (line rest : List ℕ) → NoFeed ((line ++ 10 ∷ []) ++ rest) → ⊥
no_feed_in [] rest clear = clear.0 refl
no_feed_in (x ∷ line) rest clear = no_feed_in line rest clear.1

-- what ends in a line feed is no longer than what has the last one
feed_within : (line rest front b : List ℕ) → front ++ b ≡ (line ++ 10 ∷ []) ++ rest → NoFeed b
    → (mid : List ℕ) × (front ≡ (line ++ 10 ∷ []) ++ mid)
feed_within line rest [] b e clear = absurd (no_feed_in line rest (subst NoFeed e clear))
feed_within [] rest (x ∷ front) b e clear = (front, cc)
feed_within (y ∷ line) rest (x ∷ front) b e clear =
    let tails : front ++ b ≡ (line ++ 10 ∷ []) ++ rest = cc in
    let heads : x ≡ y = cc in
    let more = feed_within line rest front b tails clear in
    let is : front ≡ (line ++ 10 ∷ []) ++ more.0 = more.1 in
    (more.0, cc)

-- what begins a text that can become a head can
open_front : (a b : List ℕ) → MayBecomeHead (a ++ b) → MayBecomeHead a
open_front a b (more, h, reads, few) = (b ++ more, h, (reads.0, sym (append_assoc a b more) ∙ reads.1), few)

open_blank : (ends : List LineEnd) (bytes : List ℕ) → MayBecomeHead bytes → MayBecomeHead (print_blank ends ++ bytes)
open_blank ends bytes (more, h, reads, few) =
    let all = reads_with_blank ends (bytes ++ more) h [] reads in
    (more, with_blank ends h, (all.0, append_assoc (print_blank ends) bytes more ∙ all.1), few)

-- the whole of what was read
open_at_feeds : (ends : List LineEnd) (bytes : List ℕ) → OpenAtLast bytes → IsOpenAtFeeds (print_blank ends ++ bytes)
open_at_feeds ends bytes o line rest e =
    let front = print_blank ends ++ o.front in
    let split : front ++ o.line ≡ (line ++ 10 ∷ []) ++ rest =
    append_assoc (print_blank ends) o.front o.line ∙ ap (λ (l : List ℕ). print_blank ends ++ l) (sym o.is) ∙ e in
    let more = feed_within line rest front o.line split o.clear in
    open_front (line ++ 10 ∷ []) more.0 (subst MayBecomeHead more.1 (open_blank ends o.front o.may_go_on))

-- the head of an answer of status 200 without fields
abbrev plain_head : ResponseHead
plain_head = record { blank = []; minor = 1; digits = codes "200"; reason = None; line_end = lf; fields = []; last = lf }

pub open_nil : OpenAtLast []
open_nil = record {
  front = [];
  line = [];
  is = refl;
  may_go_on = (
    print_response plain_head,
    plain_head,
    (
      record {
        minor = omega arith;
        digits = (refl, AllPass-from_list_all is_ascii_digit (codes "200") refl);
        reason = All-nil _;
        fields = All-nil _;
      },
      sym (append-nil (print_response plain_head)),
    ),
    omega arith,
  );
  clear = tt;
}

clear_push : (line : List ℕ) (b : ℕ) → NoFeed line → b ≢ 10 → NoFeed (line ++ b ∷ [])
clear_push [] b clear other = (other, tt)
clear_push (x ∷ line) b clear other = (clear.0, clear_push line b clear.1 other)

pub open_push : (bytes : List ℕ) (b : ℕ) → OpenAtLast bytes → b ≢ 10 → OpenAtLast (bytes ++ b ∷ [])
open_push bytes b o other = record {
  front = o.front;
  line = o.line ++ b ∷ [];
  is = ap (λ (l : List ℕ). l ++ b ∷ []) o.is ∙ append_assoc o.front o.line (b ∷ []);
  may_go_on = o.may_go_on;
  clear = clear_push o.line b o.clear other;
}

pub open_feed : (bytes : List ℕ) → MayBecomeHead bytes → OpenAtLast bytes
open_feed bytes o = record { front = bytes; line = []; is = sym (append-nil bytes); may_go_on = o; clear = tt }

-- ---- the exits of reading a head

pub head_ended : (count : ℕ) (bytes s m : List ℕ) → AfterBlank count bytes s m → HeadSoFar bytes count → count < 65536 → m ≡ []
    → EndsInHead s
head_ended count bytes s m a so_far small over =
    let is : s ≡ print_blank a.ends ++ bytes =
    a.is ∙ ap (λ (l : List ℕ). print_blank a.ends ++ (bytes ++ l)) over ∙ ap (λ (l : List ℕ). print_blank a.ends ++ l) (append-nil bytes) in
    record {
      within = omega (arith, ap length is, length-append (print_blank a.ends) bytes, a.counted);
      none = subst HasNoResponse (sym is) (no_blank_response a.ends bytes so_far.none);
      may_go_on = subst IsOpenAtFeeds (sym is) (open_at_feeds a.ends bytes so_far.may_go_on);
    }

pub head_too_large : (count : ℕ) (bytes s m : List ℕ) → AfterBlank 65536 bytes s m → HeadSoFar bytes count → HasLargeHead s m
head_too_large count bytes s m a so_far = record {
  front = print_blank a.ends ++ bytes;
  is = a.is ∙ sym (append_assoc (print_blank a.ends) bytes m);
  count = length-append (print_blank a.ends) bytes ∙ a.counted;
  none = no_blank_response a.ends bytes so_far.none;
  may_go_on = open_at_feeds a.ends bytes so_far.may_go_on;
}

pub head_pushed : (count b : ℕ) (bytes s m r : List ℕ) → AfterBlank count bytes s m → m ≡ b ∷ r
    → AfterBlank (count + 1) (bytes ++ b ∷ []) s r
head_pushed count b bytes s m r a e = record {
  ends = a.ends;
  is = a.is ∙ ap (λ (l : List ℕ). print_blank a.ends ++ l)
      (ap (λ (l : List ℕ). bytes ++ l) e ∙ sym (append_assoc bytes (b ∷ []) r));
  counted = omega (arith, a.counted, length-append bytes (b ∷ []));
}

one_end : (count : ℕ) (e : LineEnd) (s r : List ℕ) (ends : List LineEnd) → s ≡ print_blank ends ++ (print_end e ++ r)
    → length (print_blank ends) + length (print_end e) ≡ count → AfterBlank count [] s r
one_end count e s r ends is counted =
    let more : print_blank (ends ++ e ∷ []) ≡ print_blank ends ++ print_end e =
    flat_map-append print_end ends (e ∷ []) ∙ ap (λ (l : List ℕ). print_blank ends ++ l) (append-nil (print_end e)) in
    record {
      ends = ends ++ e ∷ [];
      is = is ∙ sym (append_assoc (print_blank ends) (print_end e) r) ∙ ap (λ (l : List ℕ). l ++ r) (sym more);
      counted = omega (arith, ap length more, length-append (print_blank ends) (print_end e), counted);
    }

pub head_blank : (count : ℕ) (bytes s m r : List ℕ) → AfterBlank count bytes s m → m ≡ 10 ∷ r → IsBlankLine bytes
    → AfterBlank (count + 1) [] s r
head_blank count bytes s m r a e (inl none) =
    one_end (count + 1) lf s r a.ends
    (a.is ∙ ap (λ (l : List ℕ). print_blank a.ends ++ (l ++ m)) none ∙ ap (λ (l : List ℕ). print_blank a.ends ++ l) e)
    (omega (arith, a.counted, ap length none))
head_blank count bytes s m r a e (inr cr) =
    one_end (count + 1) crlf s r a.ends
    (a.is ∙ ap (λ (l : List ℕ). print_blank a.ends ++ (l ++ m)) cr ∙ ap (λ (l : List ℕ). print_blank a.ends ++ 13 ∷ l) e)
    (omega (arith, a.counted, ap length cr))

-- what is refused stays so behind empty lines
blank_refused : (ends : List LineEnd) (bytes : List ℕ) → IsRefusedHead bytes → IsRefusedHead (print_blank ends ++ bytes)
blank_refused ends bytes (inl never) = inl (λ more h rest reads.
    let u = unblank ends (bytes ++ more) h rest (reads.0, sym (append_assoc (print_blank ends) bytes more) ∙ reads.1) in
    never more u.head rest u.reads)
blank_refused ends bytes (inr (inl many)) =
    let x = many.exceeds in
    let reads = reads_with_blank ends (x.0 ++ 10 ∷ []) x.3 [] x.4 in
    inr (inl (record {
      exceeds = (
        print_blank ends ++ x.0,
        x.1,
        ap (λ (l : List ℕ). print_blank ends ++ l) x.2 ∙ sym (append_assoc (print_blank ends) x.0 x.1),
        with_blank ends x.3,
        (reads.0, append_assoc (print_blank ends) x.0 (10 ∷ []) ∙ reads.1),
        x.5,
      );
      overflows = λ more h rest reads.
          let u = unblank ends (bytes ++ more) h rest (reads.0, sym (append_assoc (print_blank ends) bytes more) ∙ reads.1) in
          subst (λ (n : ℕ). 64 < n) (ap length u.fields) (many.overflows more u.head rest u.reads);
    }))
blank_refused ends bytes (inr (inr low)) = inr (inr (with_blank ends low.0, reads_with_blank ends bytes low.0 [] low.1, low.2))

pub head_refused : (count : ℕ) (bytes s m r : List ℕ) → count < 65536 → AfterBlank count bytes s m → HeadSoFar bytes count → m ≡ 10 ∷ r
    → IsRefusedHead (bytes ++ 10 ∷ []) → HasBadHead s r
unfolding head_pushed
head_refused count bytes s m r small a so_far e refused =
    let regroup : (print_blank a.ends ++ bytes) ++ 10 ∷ [] ≡ print_blank a.ends ++ (bytes ++ 10 ∷ []) =
    append_assoc (print_blank a.ends) bytes (10 ∷ []) in
    record {
      line = print_blank a.ends ++ bytes;
      is = (head_pushed count 10 bytes s m r a e).is ∙ sym (append_assoc (print_blank a.ends) (bytes ++ 10 ∷ []) r)
          ∙ ap (λ (l : List ℕ). l ++ r) (sym regroup);
      within = omega (arith, length-append (print_blank a.ends) bytes, a.counted);
      may_go_on = open_at_feeds a.ends bytes so_far.may_go_on;
      refused = subst IsRefusedHead (sym regroup) (blank_refused a.ends (bytes ++ 10 ∷ []) refused);
    }

-- a whole head ends in the line feed that completes it
whole_reads : (bytes : List ℕ) (p : HeadParts) → HasNoResponse bytes → (seen : Sees (bytes ++ 10 ∷ []) (Whole p))
    → ReadsResponse (bytes ++ 10 ∷ []) seen.0 []
whole_reads bytes p none seen =
    let at = seen.1.at in
    let over = whole_or_before bytes 10 seen.0 (drop p.found.len (bytes ++ 10 ∷ [])) none at.reads in
    subst (λ (l : List ℕ). ReadsResponse (bytes ++ 10 ∷ []) seen.0 l) over at.reads

pub head_is_low : (bytes : List ℕ) (p : HeadParts) → HasNoResponse bytes → Sees (bytes ++ 10 ∷ []) (Whole p) → p.found.code < 100
    → IsRefusedHead (bytes ++ 10 ∷ [])
head_is_low bytes p none seen low =
    inr (inr (seen.0, whole_reads bytes p none seen, omega (arith, seen.1.at.code, low)))

pub head_is_bad : (bytes : List ℕ) → Sees bytes Bad → IsRefusedHead bytes
head_is_bad bytes (inl never) = inl never
head_is_bad bytes (inr many) = inr (inl many)

pub head_is_whole : (bytes : List ℕ) (p : HeadParts) → HasNoResponse bytes → Sees (bytes ++ 10 ∷ []) (Whole p)
    → 100 ≤ p.found.code → length bytes + 1 ≤ 65536 → (h : ResponseHead) × IsWholeHead (bytes ++ 10 ∷ []) p h
head_is_whole bytes p none seen fit small = (
  seen.0,
  record {
    parts = seen.1;
    reads = whole_reads bytes p none seen;
    status = omega (arith, seen.1.at.code, fit);
    size = omega (arith, length-append bytes (10 ∷ []), small);
  },
)

-- ---- the head that was read, at the front of the stream

pub begins_with_head : (count : ℕ) (bytes s r : List ℕ) (p : HeadParts) (h : ResponseHead) → count ≤ 65536
    → (a : AfterBlank count bytes s r) → IsWholeHead bytes p h → BeginsWithHead s (with_blank a.ends h) r
begins_with_head count bytes s r p h small a w =
    let is : bytes ≡ print_response h = w.reads.1 ∙ append-nil (print_response h) in
    let reads : ReadsResponse (bytes ++ r) h r = ReadsResponse-append bytes h [] r w.reads in
    let grown : print_response (with_blank a.ends h) ≡ print_blank a.ends ++ print_response h =
    sym (append-nil (print_response (with_blank a.ends h))) ∙ print-with_blank a.ends h []
    ∙ ap (λ (l : List ℕ). print_blank a.ends ++ l) (append-nil (print_response h)) in
    let all = reads_with_blank a.ends (bytes ++ r) h r reads in
    record {
      reads = (all.0, a.is ∙ all.1);
      fit = record {
        status = w.status;
        fields = w.parts.room;
        size = omega (arith, ap length grown, length-append (print_blank a.ends) (print_response h), ap length is, a.counted, small);
      };
    }
