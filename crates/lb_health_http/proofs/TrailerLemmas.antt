-- Lemmas on trailers: lines that are passed, the empty line, and faults.
use Rattle.std.proofs.Common.{◌≡◌, ◌≢◌, inl, inr, ℕ, suc, ◌-◌, ◌<◌, ◌≤◌, max, List, [], ◌∷◌, ◌++◌, Err, length, refl, sym, ap, ◌∙◌, subst}
use Rattle.std.proofs.Common.{append_assoc, length-append, arith, All}
use Rattle.std.specs.List.{flat_map}
use Rattle.std.proofs.lemmas.List.Elements.{All-cons, All-nil}
use Rattle.httparse.specs.Ascii.{crlf_bytes}
use Rattle.httparse.specs.Grammar.{is_extension_byte}
use Rattle.lb_health_core.specs.declared.error.CheckError.{CheckError}
use Rattle.lb_health_core.specs.declared.error.CheckError.TheVariants.{BadFraming, EndInMessage, Read, OutOfMemory}
use Rattle.lb_health_http.specs.Chunked.{IsTrailer, print_trailer, HasTrailers, AreTrailersAtFault, NoFeed, IsLineText, IsTrailerLine}
use Rattle.lb_health_http.specs.Internal.Steps.{LineFault, TrailersOutcome}
use Rattle.lb_health_http.proofs.LineLemmas.{line_same, line_longer, no_line, crlf_line, clear_of}

-- trailer lines were passed, and so many bytes are left for others: what is after them is behind them, and back
pub record PassesTrailers (left : ℕ) (stream rest : List ℕ) : Type 0 where
  pub front : List ℕ
  pub is : stream ≡ front ++ rest
  pub on : (text after : List ℕ) → HasTrailers left text after → HasTrailers 65536 (front ++ text) after
  pub back : (text after : List ℕ) → HasTrailers 65536 (front ++ text) after → HasTrailers left text after
  pub fault : (e : CheckError) (text after : List ℕ) → AreTrailersAtFault e left text after
      → AreTrailersAtFault e 65536 (front ++ text) after

-- the first line of trailers: the empty line, or a trailer line and others
pub data FirstTrailer (room : ℕ) (text after : List ℕ) : Type 0 where
  empty : text ≡ crlf_bytes ++ after → FirstTrailer room text after
  trailer : (t more : List ℕ) → IsTrailer t → text ≡ (t ++ crlf_bytes) ++ more → length (t ++ crlf_bytes) ≤ room
      → HasTrailers (room - length (t ++ crlf_bytes)) more after → FirstTrailer room text after

trailer_line : (t : List ℕ) → IsTrailer t → IsLineText (t ++ crlf_bytes)
trailer_line t p = crlf_line t (clear_of is_extension_byte t refl p.bytes)

first_of : (room : ℕ) (text after : List ℕ) (lines : List (List ℕ)) → All IsTrailer lines
    → length (flat_map print_trailer lines) ≤ room → text ≡ flat_map print_trailer lines ++ (crlf_bytes ++ after)
    → FirstTrailer room text after
first_of room text after [] valid size is = empty is
first_of room text after (t ∷ ts) valid size is =
    let rest = flat_map print_trailer ts in
    let long = length-append (t ++ crlf_bytes) rest in
    let some : IsTrailer t = valid 0 [] (omega arith) in
    trailer t (rest ++ (crlf_bytes ++ after)) some
    (is ∙ append_assoc (t ++ crlf_bytes) rest (crlf_bytes ++ after))
    (omega (arith, long))
    (record {
      lines = ts;
      valid = λ k d h. valid (suc k) d (omega arith);
      size = omega (arith, long);
      is = refl;
    })

pub first_trailer : (room : ℕ) (text after : List ℕ) → HasTrailers room text after → FirstTrailer room text after
first_trailer room text after h = first_of room text after h.lines h.valid h.size h.is

crlf_text : IsLineText crlf_bytes
crlf_text = crlf_line [] tt

pub trailers_none : (s : List ℕ) → PassesTrailers 65536 s s
trailers_none s =
    record { front = []; is = refl; on = λ text after h. h; back = λ text after h. h; fault = λ e text after h. h }

-- one more trailer line was passed
one_on : (t text : List ℕ) (room : ℕ) (after : List ℕ) → IsTrailer t → length (t ++ crlf_bytes) ≤ room
    → HasTrailers (room - length (t ++ crlf_bytes)) text after → HasTrailers room ((t ++ crlf_bytes) ++ text) after
one_on t text room after p within h =
    let long = length-append (t ++ crlf_bytes) (flat_map print_trailer h.lines) in
    record {
      lines = t ∷ h.lines;
      valid = All-cons IsTrailer t h.lines p h.valid;
      size = omega (arith, long, h.size);
      is = ap (λ (l : List ℕ). (t ++ crlf_bytes) ++ l) h.is
          ∙ sym (append_assoc (t ++ crlf_bytes) (flat_map print_trailer h.lines) (crlf_bytes ++ after));
    }

not_empty : (t : List ℕ) → IsTrailer t → t ++ crlf_bytes ≡ crlf_bytes → ⊥
not_empty t p e = let some = p.some in omega (arith, ap length e, length-append t crlf_bytes)

one_back : (t text : List ℕ) (room : ℕ) (after : List ℕ) → IsTrailer t → HasTrailers room ((t ++ crlf_bytes) ++ text) after
    → HasTrailers (room - length (t ++ crlf_bytes)) text after
one_back t text room after p h =
    elim (first_trailer room ((t ++ crlf_bytes) ++ text) after h) [
      | empty is ↦ absurd (not_empty t p (line_same (t ++ crlf_bytes) crlf_bytes text after (trailer_line t p) crlf_text is).0)
      | trailer u more q is within rest ↦
          let same = line_same (t ++ crlf_bytes) (u ++ crlf_bytes) text more (trailer_line t p) (trailer_line u q) is in
          subst (λ (l : List ℕ). HasTrailers (room - length (t ++ crlf_bytes)) l after) (sym same.1)
          (subst (λ (l : List ℕ). HasTrailers (room - length l) more after) (sym same.0) rest)
    ]

pub trailers_more : (left : ℕ) (line s m r : List ℕ) → IsTrailerLine line → length line ≤ left → PassesTrailers left s m
    → m ≡ line ++ r → PassesTrailers (left - length line) s r
trailers_more left line s m r (t, p, same) within q e =
    let e2 : m ≡ (t ++ crlf_bytes) ++ r = e ∙ ap (λ (l : List ℕ). l ++ r) same in
    let bound : length (t ++ crlf_bytes) ≤ left = subst (λ (l : List ℕ). length l ≤ left) same within in
    let all : PassesTrailers (left - length (t ++ crlf_bytes)) s r = record {
      front = q.front ++ (t ++ crlf_bytes);
      is = q.is ∙ ap (λ (l : List ℕ). q.front ++ l) e2 ∙ sym (append_assoc q.front (t ++ crlf_bytes) r);
      on = λ text after h.
          subst (λ (l : List ℕ). HasTrailers 65536 l after) (sym (append_assoc q.front (t ++ crlf_bytes) text))
          (q.on ((t ++ crlf_bytes) ++ text) after (one_on t text left after p bound h));
      back = λ text after h.
          one_back t text left after p (q.back ((t ++ crlf_bytes) ++ text) after
          (subst (λ (l : List ℕ). HasTrailers 65536 l after) (append_assoc q.front (t ++ crlf_bytes) text) h));
      fault = λ e text after h.
          subst (λ (l : List ℕ). AreTrailersAtFault e 65536 l after) (sym (append_assoc q.front (t ++ crlf_bytes) text))
          (q.fault e ((t ++ crlf_bytes) ++ text) after (t ∷ h.0, (p, bound, (text, refl, h.1))));
    } in
    subst (λ (l : List ℕ). PassesTrailers (left - length l) s r) (sym same) all

-- the empty line ends them
pub trailers_end : (left : ℕ) (line s m r : List ℕ) → line ≡ crlf_bytes → PassesTrailers left s m → m ≡ line ++ r
    → HasTrailers 65536 s r
trailers_end left line s m r same q e =
    subst (λ (l : List ℕ). HasTrailers 65536 l r) (sym (q.is ∙ ap (λ (l : List ℕ). q.front ++ l) e))
    (q.on (line ++ r) r (record {
      lines = [];
      valid = All-nil IsTrailer;
      size = omega arith;
      is = ap (λ (l : List ℕ). l ++ r) same;
    }))

-- what has no trailers after it has none before it
behind_never : (left : ℕ) (s m k tail : List ℕ) → PassesTrailers left s m → m ≡ k ++ tail
    → ((more after : List ℕ) → HasTrailers left (k ++ more) after → ⊥)
    → (front : List ℕ) × (rest : List ℕ) × (s ≡ front ++ rest) × ((more after : List ℕ) → HasTrailers 65536 (front ++ more) after → ⊥)
behind_never left s m k tail q e nothing = (
  q.front ++ k,
  tail,
  q.is ∙ ap (λ (l : List ℕ). q.front ++ l) e ∙ sym (append_assoc q.front k tail),
  λ more after h. nothing more after (q.back (k ++ more) after
      (subst (λ (l : List ℕ). HasTrailers 65536 l after) (append_assoc q.front k more) h)),
)

-- where a fault behind them is
trailers_at : (e : CheckError) (left : ℕ) (s m r : List ℕ) → PassesTrailers left s m → AreTrailersAtFault e left m r
    → AreTrailersAtFault e 65536 s r
trailers_at e left s m r q o = subst (λ (l : List ℕ). AreTrailersAtFault e 65536 l r) (sym q.is) (q.fault e m r o)

-- a line that is no trailer line and not empty
pub bad_trailer : (left : ℕ) (line s m r : List ℕ) → IsLineText line → length line ≤ max left 2 → line ≢ crlf_bytes
    → ¬ (IsTrailerLine line) → PassesTrailers left s m → m ≡ line ++ r → TrailersOutcome (Err BadFraming) s r
bad_trailer left line s m r p most some nothing q e =
    let never = behind_never left s m line r q e (λ more after h.
    elim (first_trailer left (line ++ more) after h) [
      | empty is ↦ some (line_same line crlf_bytes more after p crlf_text is).0
      | trailer t rest u is within others ↦
          nothing (t, u, (line_same line (t ++ crlf_bytes) more rest p (trailer_line t u) is).0)
    ]) in
    let fault = trailers_at BadFraming left s m r q ([], inr (line, p, most, some, nothing, e)) in
    (never.0, never.1, never.2, never.3, fault)

long_line : (left : ℕ) (a more after : List ℕ) → NoFeed a → length a ≡ max left 2 → HasTrailers left (a ++ more) after → ⊥
long_line left a more after clear long h =
    elim (first_trailer left (a ++ more) after h) [
      | empty is ↦ let less = line_longer a crlf_bytes more after clear crlf_text is in omega (arith, long)
      | trailer t rest u is within others ↦
          let less = line_longer a (t ++ crlf_bytes) more rest clear (trailer_line t u) is in omega (arith, long)
    ]

no_first : (left : ℕ) (m after : List ℕ) → NoFeed m → HasTrailers left m after → ⊥
no_first left m after clear h =
    elim (first_trailer left m after h) [
      | empty is ↦ no_line m crlf_bytes after clear crlf_text is
      | trailer t rest u is within others ↦ no_line m (t ++ crlf_bytes) rest clear (trailer_line t u) is
    ]

-- a fault at a line
pub trailer_fault : (left most : ℕ) (s m r : List ℕ) (e : CheckError) → most ≡ max left 2 → PassesTrailers left s m
    → LineFault most e m r → TrailersOutcome (Err e) s r
trailer_fault left most s m r BadFraming is q o =
    let never = behind_never left s m o.0 r q o.1 (λ more after h. long_line left o.0 more after o.3 (o.2 ∙ is) h) in
    let fault = trailers_at BadFraming left s m r q ([], inl (o.0, o.1, o.2 ∙ is, o.3)) in
    (never.0, never.1, never.2, never.3, fault)
trailer_fault left most s m r EndInMessage is q o = (
  o.0,
  λ after h. no_first left m after o.1 (q.back m after (subst (λ (l : List ℕ). HasTrailers 65536 l after) q.is h)),
  trailers_at EndInMessage left s m r q ([], (o.0, o.1, subst (λ (n : ℕ). length m < n) is o.2)),
)
trailer_fault left most s m r Read is q o = tt
trailer_fault left most s m r OutOfMemory is q o = tt
trailer_fault left most s m r e is q o = absurd o

-- a trailer line is longer than the empty line
pub trailer_fits : (room most : ℕ) (line : List ℕ) → most ≡ max room 2 → IsTrailerLine line → length line ≤ most → length line ≤ room
trailer_fits room most line is (t, p, same) within =
    let some = p.some in
    omega (arith, length-append t crlf_bytes, ap length same)
