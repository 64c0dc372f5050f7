-- Lemmas on the frame of a body in chunks: what a byte at each place of it brings.
use Rattle.std.proofs.Common.{◌≡◌, ◌≢◌, ◌⊎◌, inl, inr, ℕ, zero, suc, ◌+◌, ◌-◌, ◌*◌, ◌<◌, ◌≤◌, ◌^◌, true, false, List, [], ◌∷◌, ◌++◌}
use Rattle.std.proofs.Common.{length, refl, sym, ap, ◌∙◌, subst, arith, Option, None, Some, MatchOption}
use Rattle.std.proofs.lemmas.List.Elements.{All-cons, All-nil, All-head, All-tail}
use Rattle.std.specs.Char.{is_ascii_hexdigit, digit_value}
use Rattle.std.specs.Str.Parse.{digits_value_after}
use Rattle.httparse.specs.Grammar.{AllPass, is_token_byte, is_value_byte}
use Rattle.lb_proxy.specs.declared.http.body.Frame.{Frame}
use Rattle.lb_proxy.specs.declared.http.body.Frame.TheVariants as F
use Rattle.lb_proxy.specs.declared.http.body.Place.{Place}
use Rattle.lb_proxy.specs.declared.http.body.Place.TheVariants as P
use Rattle.lb_proxy.specs.Http.Chunked.{Run, Counted, Feed, Trailers, InName, InValue, AfterValue, Ends, Size, Content, InExtension}
use Rattle.lb_proxy.specs.Http.Chunked.{AfterLine, Chunks}
use Rattle.lb_proxy.specs.Http.Body.{Remains, Follows, Blocks}
use Rattle.lb_proxy.proofs.HttpRunLemmas.{counted, counted_back, run_stop, run_stop_back, run_more, run_more_back, run_bad, run_full}
use Rattle.lb_proxy.proofs.HttpRunLemmas.{run_none}

no_name_return : is_token_byte 13 ≡ false
unfolding is_token_byte
no_name_return = refl

no_name_colon : is_token_byte 58 ≡ false
unfolding is_token_byte
no_name_colon = refl

-- what follows a byte follows one that equals it
pub at_byte : (frame : Frame) (n b : ℕ) (next : Place) → b ≡ n → Follows frame n next → Follows frame b next
at_byte frame n b next is f = subst (λ (x : ℕ). Follows frame x next) (sym is) f

-- what is so of a frame is so of one that equals it
pub at_frame : (frame same : Frame) (b : ℕ) (r : Option Place) → frame ≡ same → MatchOption r (Blocks same b) (Follows same b)
    → MatchOption r (Blocks frame b) (Follows frame b)
at_frame frame same b r is answer = subst (λ (f : Frame). MatchOption r (Blocks f b) (Follows f b)) (sym is) answer

-- a byte that has to be that one
pub expected : (frame : Frame) (b n : ℕ) (next : Place) (r : Option Place) → (b ≢ n → Blocks frame b) → Follows frame n next
    → MatchOption r (b ≡ n → ⊥) (λ place. (b ≡ n) × (place ≡ next)) → MatchOption r (Blocks frame b) (Follows frame b)
expected frame b n next None bad f other = bad other
expected frame b n next (Some place) bad f h = subst (λ (p : Place). Follows frame b p) (sym h.1) (at_byte frame n b next h.0 f)

-- ---- a line feed

feed : (P : List ℕ → Type 0) (text : List ℕ) → P text → Feed P (10 ∷ text)
feed P text p = record { after = text; is = refl; follows = p }

feed_back : (P : List ℕ → Type 0) (text : List ℕ) → Feed P (10 ∷ text) → P text
feed_back P text f = let is = f.is in let e : f.after ≡ text = cc in subst P e f.follows

feed_other : (P : List ℕ → Type 0) (b : ℕ) (text : List ℕ) → b ≢ 10 → Feed P (b ∷ text) → ⊥
feed_other P b text other f = let is = f.is in other (cc)

-- ---- the extension of a chunk

pub extension_end : (size room : ℕ) → Follows (F.Extension size room) 13 (P.Framed (F.SizeFeed size))
extension_end size room text = (
  λ r. (r.0, run_stop is_value_byte 13 (λ left t. Feed (λ a. AfterLine r.0 size a) t) room text r.1),
  λ r. (r.0, run_stop_back is_value_byte 13 (λ left t. Feed (λ a. AfterLine r.0 size a) t) room text refl r.1),
)

pub extension_more : (size room b : ℕ) → b ≢ 13 → is_value_byte b ≡ true → 0 < room
    → Follows (F.Extension size room) b (P.Framed (F.Extension size (room - 1)))
extension_more size room b other holds some text = (
  λ r. (r.0, run_more is_value_byte 13 (λ left t. Feed (λ a. AfterLine r.0 size a) t) b room text holds some r.1),
  λ r. (r.0, run_more_back is_value_byte 13 (λ left t. Feed (λ a. AfterLine r.0 size a) t) b room text other r.1),
)

pub extension_bad : (size room b : ℕ) → b ≢ 13 → (room ≡ 0) ⊎ (is_value_byte b ≡ false) → Blocks (F.Extension size room) b
extension_bad size room b other (inl none) text r =
    run_full is_value_byte 13 (λ left t. Feed (λ a. AfterLine r.0 size a) t) b text other
    (subst (λ (n : ℕ). Run is_value_byte 13 (λ left t. Feed (λ a. AfterLine r.0 size a) t) n (b ∷ text)) none r.1)
extension_bad size room b other (inr fails) text r =
    run_bad is_value_byte 13 (λ left t. Feed (λ a. AfterLine r.0 size a) t) b room text other fails r.1

-- ---- the size of a chunk

after_ge : (n : ℕ) (ds : List ℕ) → n ≤ digits_value_after 16 n ds
after_ge n [] = omega arith
after_ge n (d ∷ ds) = let more = after_ge (n * 16 + digit_value d) ds in omega arith

module _ (P : ℕ → List ℕ → Type 0) where
  -- what ends a chunk's line begins with no digit
  ends_first : (Q : List ℕ → Type 0) (b : ℕ) (text : List ℕ) → Ends Q (b ∷ text) → (b ≡ 13) ⊎ (b ≡ 59)
  ends_first Q b text (inl e) = let is = e.1 in inl (cc)
  ends_first Q b text (inr e) = let is = e.1 in inr (cc)

  no_digit : (b : ℕ) → is_ascii_hexdigit b ≡ true → (b ≡ 13) ⊎ (b ≡ 59) → ⊥
  no_digit b holds (inl e) = let fails : is_ascii_hexdigit b ≡ false = ap is_ascii_hexdigit e in cc
  no_digit b holds (inr e) = let fails : is_ascii_hexdigit b ≡ false = ap is_ascii_hexdigit e in cc

  size_digit : (count value b : ℕ) (text : List ℕ) → is_ascii_hexdigit b ≡ true → count < 16
      → Size P (count + 1) (value * 16 + digit_value b) text → Size P count value (b ∷ text)
  size_digit count value b text holds few s =
      let some = s.some in
      let few_left = s.few in
      record {
        digits = b ∷ s.digits;
        pass = All-cons (λ v. is_ascii_hexdigit v ≡ true) b s.digits holds s.pass;
        some = omega arith;
        few = omega arith;
        small = s.small;
        rest = s.rest;
        is = ap (λ (l : List ℕ). b ∷ l) s.is;
        ends = s.ends;
      }

  size_digit_back : (count value b : ℕ) (text : List ℕ) → is_ascii_hexdigit b ≡ true → Size P count value (b ∷ text)
      → (count < 16) × (value * 16 + digit_value b < 2 ^ 64) × Size P (count + 1) (value * 16 + digit_value b) text
  size_digit_back count value b text holds s = by s.digits s.pass s.few s.small s.rest s.is s.ends
    where
      by : (digits : List ℕ) → AllPass is_ascii_hexdigit digits → length digits ≤ 16 - count → digits_value_after 16 value digits < 2 ^ 64
          → (rest : List ℕ) → b ∷ text ≡ digits ++ rest → Ends (P (digits_value_after 16 value digits)) rest
          → (count < 16) × (value * 16 + digit_value b < 2 ^ 64) × Size P (count + 1) (value * 16 + digit_value b) text
      by [] pass few small rest is ends =
          let e : rest ≡ b ∷ text = sym is in
          absurd (no_digit b holds (ends_first (P value) b text (subst (λ (l : List ℕ). Ends (P value) l) e ends)))
      by (x ∷ ds) pass few small rest is ends =
          let same : x ≡ b = cc in
          let value_is : value * 16 + digit_value x ≡ value * 16 + digit_value b = ap (λ (d : ℕ). value * 16 + digit_value d) same in
          let small_b : digits_value_after 16 (value * 16 + digit_value b) ds < 2 ^ 64 =
          subst (λ (n : ℕ). digits_value_after 16 n ds < 2 ^ 64) value_is small in
          let ge = after_ge (value * 16 + digit_value b) ds in (
            omega arith,
            omega arith,
            record {
              digits = ds;
              pass = All-tail (λ v. is_ascii_hexdigit v ≡ true) x ds pass;
              some = omega arith;
              few = omega arith;
              small = small_b;
              rest = rest;
              is = cc;
              ends = subst (λ (n : ℕ). Ends (P (digits_value_after 16 n ds)) rest) value_is ends;
            },
          )

  size_end : (count value b : ℕ) (text : List ℕ) → 0 < count → value < 2 ^ 64 → Ends (P value) (b ∷ text) → Size P count value (b ∷ text)
  size_end count value b text some small e = record {
    digits = [];
    pass = All-nil (λ v. is_ascii_hexdigit v ≡ true);
    some = omega arith;
    few = omega arith;
    small = small;
    rest = b ∷ text;
    is = refl;
    ends = e;
  }

  size_end_back : (count value b : ℕ) (text : List ℕ) → is_ascii_hexdigit b ≡ false → Size P count value (b ∷ text)
      → (0 < count) × Ends (P value) (b ∷ text)
  size_end_back count value b text fails s = by s.digits s.pass s.some s.rest s.is s.ends
    where
      by : (digits : List ℕ) → AllPass is_ascii_hexdigit digits → 0 < count + length digits
          → (rest : List ℕ) → b ∷ text ≡ digits ++ rest → Ends (P (digits_value_after 16 value digits)) rest
          → (0 < count) × Ends (P value) (b ∷ text)
      by [] pass some rest is ends =
          let e : rest ≡ b ∷ text = sym is in
          (omega arith, subst (λ (l : List ℕ). Ends (P value) l) e ends)
      by (x ∷ ds) pass some rest is ends =
          let same : b ≡ x = cc in
          let holds : is_ascii_hexdigit x ≡ true = All-head (λ v. is_ascii_hexdigit v ≡ true) x ds pass in
          let also : is_ascii_hexdigit b ≡ is_ascii_hexdigit x = ap is_ascii_hexdigit same in
          cc

size_more_at : (count value b : ℕ) → is_ascii_hexdigit b ≡ true → count < 16
    → Follows (F.Size count value) b (P.Framed (F.Size (count + 1) (value * 16 + digit_value b)))
size_more_at count value b holds few text = (
  λ r. (r.0, size_digit (λ s a. AfterLine r.0 s a) count value b text holds few r.1),
  λ r. (r.0, (size_digit_back (λ s a. AfterLine r.0 s a) count value b text holds r.1).2),
)

pub size_more : (count value b digit : ℕ) → is_ascii_hexdigit b ≡ true → digit ≡ digit_value b → count < 16
    → Follows (F.Size count value) b (P.Framed (F.Size (count + 1) (value * 16 + digit)))
size_more count value b digit holds is few =
    subst (λ (d : ℕ). Follows (F.Size count value) b (P.Framed (F.Size (count + 1) (value * 16 + d)))) (sym is)
    (size_more_at count value b holds few)

pub size_full : (count value b : ℕ) → is_ascii_hexdigit b ≡ true → (16 ≤ count) ⊎ (1152921504606846976 ≤ value)
    → Blocks (F.Size count value) b
size_full count value b holds (inl many) text r =
    let back : count < 16 = (size_digit_back (λ s a. AfterLine r.0 s a) count value b text holds r.1).0 in omega arith
size_full count value b holds (inr large) text r =
    let back : value * 16 + digit_value b < 2 ^ 64 = (size_digit_back (λ s a. AfterLine r.0 s a) count value b text holds r.1).1
    in omega arith

-- what a digit brings
pub size_digits : (count value b digit : ℕ) (r : Option Place) → is_ascii_hexdigit b ≡ true → digit ≡ digit_value b
    → MatchOption r ((16 ≤ count) ⊎ (1152921504606846976 ≤ value))
    (λ next. (count < 16) × (next ≡ P.Framed (F.Size (count + 1) (value * 16 + digit))))
    → MatchOption r (Blocks (F.Size count value) b) (Follows (F.Size count value) b)
size_digits count value b digit None holds is h = size_full count value b holds h
size_digits count value b digit (Some next) holds is h =
    subst (λ (p : Place). Follows (F.Size count value) b p) (sym h.1) (size_more count value b digit holds is h.0)

pub size_none : (value b : ℕ) → is_ascii_hexdigit b ≡ false → Blocks (F.Size 0 value) b
size_none value b fails text r = let back : 0 < 0 = (size_end_back (λ s a. AfterLine r.0 s a) 0 value b text fails r.1).0 in omega arith

pub size_bad : (count value b : ℕ) → is_ascii_hexdigit b ≡ false → b ≢ 13 → b ≢ 59 → Blocks (F.Size count value) b
size_bad count value b fails other also text r =
    by (ends_first (λ s a. AfterLine r.0 s a) (λ a. AfterLine r.0 value a) b text
    (size_end_back (λ s a. AfterLine r.0 s a) count value b text fails r.1).1)
  where
    by : (b ≡ 13) ⊎ (b ≡ 59) → ⊥
    by (inl e) = other e
    by (inr e) = also e

-- two texts that begin with the same byte go on in the same way
tail_same : (b : ℕ) (text rest : List ℕ) → b ∷ text ≡ b ∷ rest → rest ≡ text
tail_same b text rest is = cc

no_semicolon : (text rest : List ℕ) → 13 ∷ text ≡ 59 ∷ rest → ⊥
no_semicolon text rest is = cc

ends_return_back : (Q : List ℕ → Type 0) (text : List ℕ) → Ends Q (13 ∷ text) → Feed Q text
ends_return_back Q text (inl e) = subst (λ (l : List ℕ). Feed Q l) (tail_same 13 text e.0 e.1) e.2
ends_return_back Q text (inr e) = absurd (no_semicolon text e.0 e.1)

ends_semicolon_back : (Q : List ℕ → Type 0) (text : List ℕ) → Ends Q (59 ∷ text) → InExtension Q 4096 text
ends_semicolon_back Q text (inl e) = absurd (no_semicolon e.0 text (sym e.1))
ends_semicolon_back Q text (inr e) = subst (λ (l : List ℕ). InExtension Q 4096 l) (tail_same 59 text e.0 e.1) e.2

pub size_return : (count value : ℕ) → 0 < count → value < 2 ^ 64 → Follows (F.Size count value) 13 (P.Framed (F.SizeFeed value))
size_return count value some small text = (
  λ r. (r.0, size_end (λ s a. AfterLine r.0 s a) count value 13 text some small (inl (text, refl, r.1))),
  λ r. (r.0, ends_return_back (λ a. AfterLine r.0 value a) text (size_end_back (λ s a. AfterLine r.0 s a) count value 13 text refl r.1).1),
)

pub size_semicolon : (count value : ℕ) → 0 < count → value < 2 ^ 64
    → Follows (F.Size count value) 59 (P.Framed (F.Extension value 4096))
size_semicolon count value some small text = (
  λ r. (r.0, size_end (λ s a. AfterLine r.0 s a) count value 59 text some small (inr (text, refl, r.1))),
  λ r. (
    r.0,
    ends_semicolon_back (λ a. AfterLine r.0 value a) text
        (size_end_back (λ s a. AfterLine r.0 s a) count value 59 text refl r.1).1,
  ),
)

-- ---- what follows the line of a chunk

pub line_last : (size : ℕ) (text : List ℕ) → size ≡ 0
    → (((n : ℕ) × Trailers n 65536 text) → (n : ℕ) × AfterLine n size text)
    × (((n : ℕ) × AfterLine n size text) → (n : ℕ) × Trailers n 65536 text)
line_last size text none = (λ r. (0, (none, r)), λ r. back r.0 r.1)
  where
    back : (n : ℕ) → AfterLine n size text → (k : ℕ) × Trailers k 65536 text
    back zero a = a.1
    back (suc n) a = let some = a.0 in absurd (omega arith)

pub line_content : (size : ℕ) (text : List ℕ) → size ≢ 0
    → (((0 < size) × ((n : ℕ) × Content (λ t. Chunks n t) size text)) → (n : ℕ) × AfterLine n size text)
    × (((n : ℕ) × AfterLine n size text) → (0 < size) × ((n : ℕ) × Content (λ t. Chunks n t) size text))
line_content size text some = (λ r. (suc r.1.0, (r.0, r.1.1)), λ r. back r.0 r.1)
  where
    back : (n : ℕ) → AfterLine n size text → (0 < size) × ((k : ℕ) × Content (λ t. Chunks k t) size text)
    back zero a = absurd (some a.0)
    back (suc n) a = (a.0, (n, a.1))

-- ---- trailers

pub start_end : (room : ℕ) → Follows (F.Trailer room) 13 (P.Framed F.LastFeed)
start_end room text = (λ e. (0, ap (λ (l : List ℕ). 13 ∷ l) e), λ r. back r.0 r.1)
  where
    back : (n : ℕ) → Trailers n room (13 ∷ text) → text ≡ 10 ∷ []
    back zero e = cc
    back (suc n) l =
        let is = l.is in let same : 13 ≡ l.first = cc in let pass = l.pass in
        let fails : is_token_byte l.first ≡ false = ap is_token_byte (sym same) ∙ no_name_return in cc

pub start_name : (room b : ℕ) → b ≢ 13 → is_token_byte b ≡ true → 0 < room → Follows (F.Trailer room) b (P.Framed (F.Name (room - 1)))
start_name room b other holds some text = (
  λ r. (
    suc r.0,
    record {
      first = b;
      pass = holds;
      after = text;
      is = refl;
      follows = counted (InName (λ left after. Trailers r.0 left after)) room text some r.1;
    },
  ),
  λ r. back r.0 r.1,
)
  where
    back : (n : ℕ) → Trailers n room (b ∷ text) → (k : ℕ) × InName (λ left after. Trailers k left after) (room - 1) text
    back zero e = absurd (other (cc))
    back (suc n) l =
        let is = l.is in let same : l.after ≡ text = cc in (
          n,
          subst (λ (t : List ℕ). InName (λ left after. Trailers n left after) (room - 1) t) same
              (counted_back (InName (λ left after. Trailers n left after)) room l.after l.follows),
        )

pub start_bad : (room b : ℕ) → b ≢ 13 → (room ≡ 0) ⊎ (is_token_byte b ≡ false) → Blocks (F.Trailer room) b
start_bad room b other (inl none) text r = by r.0 r.1
  where
    by : (n : ℕ) → Trailers n room (b ∷ text) → ⊥
    by zero e = other (cc)
    by (suc n) l = subst (λ (k : ℕ). Counted (InName (λ left after. Trailers n left after)) k l.after) none l.follows
start_bad room b other (inr fails) text r = by r.0 r.1
  where
    by : (n : ℕ) → Trailers n room (b ∷ text) → ⊥
    by zero e = other (cc)
    by (suc n) l =
        let is = l.is in let pass = l.pass in let eq : b ≡ l.first = cc in
        let same : is_token_byte b ≡ is_token_byte l.first = ap is_token_byte eq in cc

pub name_full : (b : ℕ) → Blocks (F.Name 0) b
name_full b text r = run_none is_token_byte 58 (InValue (λ left after. Trailers r.0 left after)) (b ∷ text) r.1

pub name_end : (room : ℕ) → 0 < room → Follows (F.Name room) 58 (P.Framed (F.Value (room - 1)))
name_end room some text = (
  λ r. (
    r.0,
    run_stop is_token_byte 58 (Counted (InValue (λ left after. Trailers r.0 left after))) room text
        (counted (InValue (λ left after. Trailers r.0 left after)) room text some r.1),
  ),
  λ r. (
    r.0,
    counted_back (InValue (λ left after. Trailers r.0 left after)) room text
        (run_stop_back is_token_byte 58 (Counted (InValue (λ left after. Trailers r.0 left after))) room text no_name_colon r.1),
  ),
)

pub name_more : (room b : ℕ) → b ≢ 58 → is_token_byte b ≡ true → 0 < room → Follows (F.Name room) b (P.Framed (F.Name (room - 1)))
name_more room b other holds some text = (
  λ r. (r.0, run_more is_token_byte 58 (Counted (InValue (λ left after. Trailers r.0 left after))) b room text holds some r.1),
  λ r. (r.0, run_more_back is_token_byte 58 (Counted (InValue (λ left after. Trailers r.0 left after))) b room text other r.1),
)

pub name_bad : (room b : ℕ) → b ≢ 58 → is_token_byte b ≡ false → Blocks (F.Name room) b
name_bad room b other fails text r =
    run_bad is_token_byte 58 (Counted (InValue (λ left after. Trailers r.0 left after))) b room text other fails r.1

pub value_full : (b : ℕ) → Blocks (F.Value 0) b
value_full b text r = run_none is_value_byte 13 (AfterValue (λ left after. Trailers r.0 left after)) (b ∷ text) r.1

pub value_end : (room : ℕ) → 0 < room → Follows (F.Value room) 13 (P.Framed (F.ValueFeed (room - 1)))
value_end room some text = (
  λ r. (
    r.0,
    run_stop is_value_byte 13 (Counted (AfterValue (λ left after. Trailers r.0 left after))) room text
        (counted (AfterValue (λ left after. Trailers r.0 left after)) room text some r.1),
  ),
  λ r. (
    r.0,
    counted_back (AfterValue (λ left after. Trailers r.0 left after)) room text
        (run_stop_back is_value_byte 13 (Counted (AfterValue (λ left after. Trailers r.0 left after))) room text refl r.1),
  ),
)

pub value_more : (room b : ℕ) → b ≢ 13 → is_value_byte b ≡ true → 0 < room → Follows (F.Value room) b (P.Framed (F.Value (room - 1)))
value_more room b other holds some text = (
  λ r. (r.0, run_more is_value_byte 13 (Counted (AfterValue (λ left after. Trailers r.0 left after))) b room text holds some r.1),
  λ r. (r.0, run_more_back is_value_byte 13 (Counted (AfterValue (λ left after. Trailers r.0 left after))) b room text other r.1),
)

pub value_bad : (room b : ℕ) → b ≢ 13 → is_value_byte b ≡ false → Blocks (F.Value room) b
value_bad room b other fails text r =
    run_bad is_value_byte 13 (Counted (AfterValue (λ left after. Trailers r.0 left after))) b room text other fails r.1

-- ---- single bytes

pub size_feed : (size : ℕ) (next : Place) → ((text : List ℕ) → (Remains next text → (n : ℕ) × AfterLine n size text)
    × (((n : ℕ) × AfterLine n size text) → Remains next text)) → Follows (F.SizeFeed size) 10 next
size_feed size next same text = (
  λ r. let a = (same text).0 r in (a.0, feed (λ t. AfterLine a.0 size t) text a.1),
  λ r. (same text).1 (r.0, feed_back (λ t. AfterLine r.0 size t) text r.1),
)

pub size_feed_bad : (size b : ℕ) → b ≢ 10 → Blocks (F.SizeFeed size) b
size_feed_bad size b other text r = feed_other (λ t. AfterLine r.0 size t) b text other r.1

pub content_return : Follows F.ContentReturn 13 (P.Framed F.ContentFeed)
content_return text = (
  λ r. (r.0, (text, refl, r.1)),
  λ r. let is = r.1.1 in let same : r.1.0 ≡ text = cc in (r.0, subst (λ (l : List ℕ). Feed (λ t. Chunks r.0 t) l) same r.1.2),
)

pub content_return_bad : (b : ℕ) → b ≢ 13 → Blocks F.ContentReturn b
content_return_bad b other text r = let is = r.1.1 in other (cc)

pub content_feed : Follows F.ContentFeed 10 (P.Framed (F.Size 0 0))
content_feed text = (
  λ r. (r.0, feed (λ t. Chunks r.0 t) text r.1),
  λ r. (r.0, feed_back (λ t. Chunks r.0 t) text r.1),
)

pub content_feed_bad : (b : ℕ) → b ≢ 10 → Blocks F.ContentFeed b
content_feed_bad b other text r = feed_other (λ t. Chunks r.0 t) b text other r.1

pub value_feed : (room : ℕ) → 0 < room → Follows (F.ValueFeed room) 10 (P.Framed (F.Trailer (room - 1)))
value_feed room some text = (
  λ r. (r.0, counted (λ left t. Feed (λ a. Trailers r.0 left a) t) room (10 ∷ text) some (feed (λ a. Trailers r.0 (room - 1) a) text r.1)),
  λ r. (
    r.0,
    feed_back (λ a. Trailers r.0 (room - 1) a) text
        (counted_back (λ left t. Feed (λ a. Trailers r.0 left a) t) room (10 ∷ text) r.1),
  ),
)

pub value_feed_full : (b : ℕ) → Blocks (F.ValueFeed 0) b
value_feed_full b text r = r.1

pub value_feed_bad : (room b : ℕ) → b ≢ 10 → Blocks (F.ValueFeed room) b
value_feed_bad room b other text r =
    feed_other (λ a. Trailers r.0 (room - 1) a) b text other
    (counted_back (λ left t. Feed (λ a. Trailers r.0 left a) t) room (b ∷ text) r.1)

pub last_feed : Follows F.LastFeed 10 P.Done
last_feed text = (λ e. ap (λ (l : List ℕ). 10 ∷ l) e, λ e. cc)

pub last_feed_bad : (b : ℕ) → b ≢ 10 → Blocks F.LastFeed b
last_feed_bad b other text e = other (cc)
