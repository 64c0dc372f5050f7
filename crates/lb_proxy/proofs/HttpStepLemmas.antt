-- Lemmas on the pieces that the bytes of a body come in.
use Rattle.std.proofs.Common.{◌≡◌, ◌≢◌, ◌↔◌, ◌⊎◌, inl, inr, ℕ, zero, suc, ◌+◌, ◌-◌, ◌<◌, ◌≤◌, Bool, List, [], ◌∷◌, ◌++◌, length, take, drop}
use Rattle.std.proofs.Common.{get_or}
use Rattle.std.proofs.Common.{refl, sym, ap, ◌∙◌, subst, arith, append_assoc, length-append, length-take, length-drop, take-append-drop}
use Rattle.std.proofs.Common.{Option, MatchOption}
use Rattle.std.proofs.lemmas.List.{nil_from_length, take-take, take_all, drop-take}
use Rattle.lb_proxy.specs.declared.http.body.Body.{Body}
use Rattle.lb_proxy.specs.declared.http.body.Frame.{Frame}
use Rattle.lb_proxy.specs.declared.http.body.Frame.TheVariants as F
use Rattle.lb_proxy.specs.declared.http.body.Place.{Place}
use Rattle.lb_proxy.specs.declared.http.body.Place.TheVariants as P
use Rattle.std.specs.Str.Parse.{digits_value_after}
use Rattle.httparse.specs.Grammar.{is_token_byte, is_value_byte}
use Rattle.lb_proxy.specs.Http.Chunked.{Run, Counted, Content, Chunks, Feed, Ends, Size, Trailers, AfterLine, AfterValue, InValue}
use Rattle.lb_proxy.specs.Http.Body.{FrameRemains, Remains, Follows, Blocks, Passes, BlocksAll, Completes, IsEnded}

-- ---- lists

same_split : (xs us ys vs : List ℕ) → length xs ≡ length us → xs ++ ys ≡ us ++ vs → ys ≡ vs
same_split [] [] ys vs e f = f
same_split [] (u ∷ us) ys vs e f = absurd (omega arith)
same_split (x ∷ xs) [] ys vs e f = absurd (omega arith)
same_split (x ∷ xs) (u ∷ us) ys vs e f = same_split xs us ys vs (omega arith) (cc)

longer_split : (xs us ys vs : List ℕ) → length xs ≤ length us → xs ++ ys ≡ us ++ vs → ys ≡ drop (length xs) us ++ vs
longer_split [] us ys vs e f = f
longer_split (x ∷ xs) [] ys vs e f = absurd (omega arith)
longer_split (x ∷ xs) (u ∷ us) ys vs e f = longer_split xs us ys vs (omega arith) (cc)

take_add : (d : List ℕ) (a n : ℕ) → take (a + n) d ≡ take a d ++ take n (drop a d)
take_add d a n =
    let whole : take a (take (a + n) d) ++ drop a (take (a + n) d) ≡ take (a + n) d = take-append-drop a (take (a + n) d) in
    sym (rw (take-take a (a + n) d (omega arith), drop-take a n d) at whole)

-- ---- a step

module _ (left : ℕ) (bytes : List ℕ) where
  pub sized_end : left ≢ 0 → left ≤ length bytes → Passes (P.Sized left) bytes left P.Done
  sized_end some within =
      let cut : length (take left bytes) ≡ left = omega (arith, length-take left bytes) in
      record {
        some = omega arith;
        within = within;
        follows = λ text. (
          λ none. let nothing : length text ≡ 0 = ap length none in
              let joined = length-append (take left bytes) text in
              let whole : length (take left bytes ++ text) ≡ left = omega arith in
              let positive : 0 < left = omega arith in (positive, whole),
          λ r. let joined = length-append (take left bytes) text in let whole = r.1 in nil_from_length text (omega arith),
        );
      }

  pub sized_more : 0 < length bytes → length bytes < left → Passes (P.Sized left) bytes (length bytes) (P.Sized (left - length bytes))
  sized_more some within =
      let cut : length (take (length bytes) bytes) ≡ length bytes = omega (arith, length-take (length bytes) bytes) in
      record {
        some = some;
        within = omega arith;
        follows = λ text. (
          λ r. let joined = length-append (take (length bytes) bytes) text in
              let sized = r.1 in
              let whole : length (take (length bytes) bytes ++ text) ≡ left = omega arith in
              let positive : 0 < left = omega arith in (positive, whole),
          λ r. let joined = length-append (take (length bytes) bytes) text in
              let sized = r.1 in
              let rest : length text ≡ left - length bytes = omega arith in
              let positive : 0 < left - length bytes = omega arith in (positive, rest),
        );
      }

  pub content_end : left ≢ 0 → left ≤ length bytes → Passes (P.Content left) bytes left (P.Framed F.ContentReturn)
  content_end some within =
      let cut : length (take left bytes) ≡ left = omega (arith, length-take left bytes) in
      record {
        some = omega arith;
        within = within;
        follows = λ text. (
          λ r. (
            omega arith,
            (
              r.0,
              record {
                content = take left bytes;
                sized = cut;
                after = r.1.0;
                is = ap (λ (l : List ℕ). take left bytes ++ l) r.1.1;
                follows = r.1.2;
              },
            ),
          ),
          λ r. (
            r.1.0,
            (
              r.1.1.after,
              same_split (take left bytes) r.1.1.content text (13 ∷ r.1.1.after) (cut ∙ sym r.1.1.sized) r.1.1.is,
              r.1.1.follows,
            ),
          ),
        );
      }

  pub content_more : 0 < length bytes → length bytes < left
      → Passes (P.Content left) bytes (length bytes) (P.Content (left - length bytes))
  content_more some within =
      let front = take (length bytes) bytes in
      let cut : length front ≡ length bytes = omega (arith, length-take (length bytes) bytes) in
      record {
        some = some;
        within = omega arith;
        follows = λ text. (
          λ r. let sized = r.1.1.sized in
              let joined = length-append front r.1.1.content in (
                omega arith,
                (
                  r.1.0,
                  record {
                    content = front ++ r.1.1.content;
                    sized = omega arith;
                    after = r.1.1.after;
                    is = ap (λ (l : List ℕ). front ++ l) r.1.1.is ∙ sym (append_assoc front r.1.1.content (13 ∷ r.1.1.after));
                    follows = r.1.1.follows;
                  },
                ),
              ),
          λ r. let sized = r.1.1.sized in
              let dropped = length-drop (length front) r.1.1.content in (
                omega arith,
                (
                  r.1.0,
                  record {
                    content = drop (length front) r.1.1.content;
                    sized = omega arith;
                    after = r.1.1.after;
                    is = longer_split front r.1.1.content text (13 ∷ r.1.1.after) (omega arith) r.1.1.is;
                    follows = r.1.1.follows;
                  },
                ),
              ),
        );
      }

pub close_passes : (bytes : List ℕ) → 0 < length bytes → Passes P.UntilClose bytes (length bytes) P.UntilClose
close_passes bytes some = record { some = some; within = omega arith; follows = λ text. (λ r. tt, λ r. tt) }

pub sized_none : (bytes : List ℕ) → BlocksAll (P.Sized 0) bytes
sized_none bytes text r = let some = r.0 in omega arith

pub content_none : (bytes : List ℕ) → BlocksAll (P.Content 0) bytes
content_none bytes text r = let some = r.0 in omega arith

pub frame_passes : (frame : Frame) (bytes : List ℕ) (b : ℕ) (next : Place) → 0 < length bytes → b ≡ get_or bytes 0 0 → Follows frame b next
    → Passes (P.Framed frame) bytes 1 next
frame_passes frame [] b next some is f = absurd (omega arith)
frame_passes frame (x ∷ bytes) b next some is f = record {
  some = omega arith;
  within = omega arith;
  follows = λ text. subst (λ (y : ℕ). Remains next text ↔ FrameRemains frame (y ∷ text)) is (f text);
}

pub frame_blocks : (frame : Frame) (bytes : List ℕ) (b : ℕ) → 0 < length bytes → b ≡ get_or bytes 0 0 → Blocks frame b
    → BlocksAll (P.Framed frame) bytes
frame_blocks frame [] b some is f text r = absurd (omega arith)
frame_blocks frame (x ∷ bytes) b some is f text r =
    f (bytes ++ text) (subst (λ (y : ℕ). FrameRemains frame (y ∷ (bytes ++ text))) (sym is) r)

-- what is so of a place is so of one that equals it
pub at_place : (place same : Place) (bytes : List ℕ) (r : Option (ℕ × Place)) → place ≡ same
    → MatchOption r (BlocksAll same bytes) (λ next. Passes same bytes next.0 next.1)
    → MatchOption r (BlocksAll place bytes) (λ next. Passes place bytes next.0 next.1)
at_place place same bytes r is answer =
    subst (λ (p : Place). MatchOption r (BlocksAll p bytes) (λ next. Passes p bytes next.0 next.1)) (sym is) answer

-- ---- many steps

pub rest_is : (bytes : List ℕ) (passed : ℕ) → take (length bytes - passed) (drop passed bytes) ≡ drop passed bytes
rest_is bytes passed = take_all (length bytes - passed) (drop passed bytes) (omega (arith, length-drop passed bytes))

pub passes_on : (first place next : Place) (bytes : List ℕ) (passed count : ℕ)
    → ((text : List ℕ) → Remains place text ↔ Remains first (take passed bytes ++ text))
    → Passes place (drop passed bytes) count next
    → (text : List ℕ) → Remains next text ↔ Remains first (take (passed + count) bytes ++ text)
passes_on first place next bytes passed count before one text =
    let more = take count (drop passed bytes) ++ text in
    let cut : take passed bytes ++ more ≡ take (passed + count) bytes ++ text =
    sym (append_assoc (take passed bytes) (take count (drop passed bytes)) text)
    ∙ ap (λ (l : List ℕ). l ++ text) (sym (take_add bytes passed count)) in (
      λ r. subst (λ (l : List ℕ). Remains first l) cut ((before more).0 ((one.follows text).0 r)),
      λ r. (one.follows text).1 ((before more).1 (subst (λ (l : List ℕ). Remains first l) (sym cut) r)),
    )

pub blocks_on : (first place : Place) (bytes : List ℕ) (passed : ℕ)
    → ((text : List ℕ) → Remains place text ↔ Remains first (take passed bytes ++ text))
    → BlocksAll place (drop passed bytes) → (text : List ℕ) → ¬ (Remains first (bytes ++ text))
blocks_on first place bytes passed before blocks text r =
    let cut : bytes ++ text ≡ take passed bytes ++ (drop passed bytes ++ text) =
    ap (λ (l : List ℕ). l ++ text) (sym (take-append-drop passed bytes)) ∙ append_assoc (take passed bytes) (drop passed bytes) text in
    blocks text ((before (drop passed bytes ++ text)).1 (subst (λ (l : List ℕ). Remains first l) cut r))

-- ---- the end

pub done_ends : (body : Body) → body.place ≡ P.Done → IsEnded body
done_ends body is =
    record {
      whole = subst (λ (p : Place). Remains p []) (sym is) refl;
      none = λ text r. subst (λ (p : Place). Remains p text) is r;
    }

run_some : (test : ℕ → Bool) (stop : ℕ) (P : ℕ → List ℕ → Type 0) (most : ℕ) → ¬ (Run test stop P most [])
run_some test stop P most r = by r.run r.after r.is
  where
    by : (run after : List ℕ) → [] ≡ run ++ stop ∷ after → ⊥
    by [] after is = cc
    by (x ∷ run) after is = cc

feed_some : (P : List ℕ → Type 0) → ¬ (Feed P [])
feed_some P f = let is = f.is in cc

ends_some : (P : List ℕ → Type 0) → ¬ (Ends P [])
ends_some P (inl e) = let is = e.1 in cc
ends_some P (inr e) = let is = e.1 in cc

size_some : (P : ℕ → List ℕ → Type 0) (count value : ℕ) → ¬ (Size P count value [])
size_some P count value s = by s.digits s.rest s.is s.ends
  where
    by : (digits rest : List ℕ) → [] ≡ digits ++ rest → Ends (P (digits_value_after 16 value digits)) rest → ⊥
    by [] rest is ends = ends_some (P value) (subst (λ (l : List ℕ). Ends (P value) l) (sym is) ends)
    by (x ∷ digits) rest is ends = cc

trailers_some : (n room : ℕ) → ¬ (Trailers n room [])
trailers_some zero room e = cc
trailers_some (suc n) room l = let is = l.is in cc

after_value_some : (P : ℕ → List ℕ → Type 0) (room : ℕ) → ¬ (AfterValue P room [])
after_value_some P zero r = r
after_value_some P (suc room) r = feed_some (P room) r

-- something is left at each place of the frame
pub frame_some : (frame : Frame) → ¬ (FrameRemains frame [])
frame_some (F.Size count value) r = size_some (λ s a. AfterLine r.0 s a) count value r.1
frame_some (F.Extension size room) r = run_some is_value_byte 13 (λ left t. Feed (λ a. AfterLine r.0 size a) t) room r.1
frame_some (F.SizeFeed size) r = feed_some (λ a. AfterLine r.0 size a) r.1
frame_some F.ContentReturn r = let is = r.1.1 in cc
frame_some F.ContentFeed r = feed_some (λ t. Chunks r.0 t) r.1
frame_some (F.Trailer room) r = trailers_some r.0 room r.1
frame_some (F.Name room) r = run_some is_token_byte 58 (Counted (InValue (λ left a. Trailers r.0 left a))) room r.1
frame_some (F.Value room) r = run_some is_value_byte 13 (Counted (AfterValue (λ left a. Trailers r.0 left a))) room r.1
frame_some (F.ValueFeed room) r = after_value_some (λ left a. Trailers r.0 left a) room r.1
frame_some F.LastFeed r = cc

content_some : (P : List ℕ → Type 0) (size : ℕ) → ¬ (Content P size [])
content_some P size c = by c.content c.after c.is
  where
    by : (content after : List ℕ) → [] ≡ content ++ 13 ∷ after → ⊥
    by [] after is = cc
    by (x ∷ content) after is = cc

-- a place at which nothing is left is the end, or goes on to the end of the stream
pub sized_some : (left : ℕ) → ¬ (Remains (P.Sized left) [])
sized_some left r = let some = r.0 in let none = r.1 in omega arith

pub place_content_some : (left : ℕ) → ¬ (Remains (P.Content left) [])
place_content_some left r = content_some (λ t. Chunks r.1.0 t) left r.1.1

longer : (x : ℕ) (xs : List ℕ) → x ∷ xs ≡ [] → ⊥
longer x xs e = cc

pub close_goes_on : ((text : List ℕ) → Remains P.UntilClose text → text ≡ []) → ⊥
close_goes_on none = longer 0 [] (none (0 ∷ []) tt)

ended_place : (place : Place) → Remains place [] → ((text : List ℕ) → Remains place text → text ≡ []) → place ≡ P.Done
ended_place P.Done whole none = refl
ended_place (P.Sized left) whole none = absurd (sized_some left whole)
ended_place P.UntilClose whole none = absurd (close_goes_on none)
ended_place (P.Content left) whole none = absurd (place_content_some left whole)
ended_place (P.Framed frame) whole none = absurd (frame_some frame whole)

pub ended_done : (body : Body) → IsEnded body → body.place ≡ P.Done
ended_done body ended = ended_place body.place ended.whole ended.none

-- a stream may end at the end of a body, or where the body goes on to the end of the stream
pub whole_place : (place : Place) → Remains place [] → (place ≡ P.Done) ⊎ (place ≡ P.UntilClose)
whole_place P.Done whole = inl refl
whole_place (P.Sized left) whole = absurd (sized_some left whole)
whole_place P.UntilClose whole = inr refl
whole_place (P.Content left) whole = absurd (place_content_some left whole)
whole_place (P.Framed frame) whole = absurd (frame_some frame whole)

abbrev pub IsOpen : Place → Type 0
IsOpen p = ((x : ℕ) × (p ≡ P.Sized x)) ⊎ ((p ≡ P.UntilClose) ⊎ (((x : ℕ) × (p ≡ P.Content x)) ⊎ ((x : Frame) × (p ≡ P.Framed x))))

not_done : (place : Place) → IsOpen place → place ≡ P.Done → ⊥
not_done place (inl h) done = let is = h.1 in cc
not_done place (inr (inl is)) done = cc
not_done place (inr (inr (inl h))) done = let is = h.1 in cc
not_done place (inr (inr (inr h))) done = let is = h.1 in cc

pub never_ended : (body : Body) → IsOpen body.place → IsEnded body → ⊥
never_ended body goes_on ended = not_done body.place goes_on (ended_done body ended)

abbrev pub IsBefore : Place → Type 0
IsBefore p = ((x : ℕ) × (p ≡ P.Sized x)) ⊎ (((x : ℕ) × (p ≡ P.Content x)) ⊎ ((x : Frame) × (p ≡ P.Framed x)))

not_whole : (place : Place) → IsBefore place → (place ≡ P.Done) ⊎ (place ≡ P.UntilClose) → ⊥
not_whole place (inl h) (inl done) = let is = h.1 in cc
not_whole place (inl h) (inr close) = let is = h.1 in cc
not_whole place (inr (inl h)) (inl done) = let is = h.1 in cc
not_whole place (inr (inl h)) (inr close) = let is = h.1 in cc
not_whole place (inr (inr h)) (inl done) = let is = h.1 in cc
not_whole place (inr (inr h)) (inr close) = let is = h.1 in cc

pub never_whole : (body : Body) → IsBefore body.place → Completes body [] → ⊥
never_whole body before whole = not_whole body.place before (whole_place body.place whole)
