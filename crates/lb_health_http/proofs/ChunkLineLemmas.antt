-- Lemmas on a chunk's line: how far a class of bytes reaches in a line, and that what is read is the only way to read it.
use Rattle.std.proofs.Common.{◌≡◌, ◌≢◌, ℕ, suc, ◌+◌, ◌-◌, ◌*◌, ◌^◌, ◌<◌, ◌≤◌, Bool, true, false, cond, MatchBool, ◌==◌, List, [], ◌∷◌, ◌++◌}
use Rattle.std.proofs.Common.{None, Some, length, length-drop, get_or, take, drop, refl, sym, ap, ◌∙◌, subst, append-nil, take-append-drop}
use Rattle.std.proofs.Common.{arith}
use Rattle.std.specs.List.{prefix_len}
use Rattle.std.specs.Char.{is_ascii_hexdigit, digit_value}
use Rattle.std.specs.Str.Parse.{digits_value}
use Rattle.std.proofs.Math.Nat.{pow-le-pow_right}
use Rattle.std.proofs.lemmas.Bool.Decides.{nat_tests}
use Rattle.std.proofs.lemmas.Grind.{pow_more}
use Rattle.std.proofs.lemmas.List.{take_all}
use Rattle.std.proofs.lemmas.List.Elements.{All-cons, All-nil}
use Rattle.httparse.specs.Ascii.{crlf_bytes}
use Rattle.httparse.specs.Grammar.{AllPass, print_chunk_line, is_extension_byte, is_ows}
use Rattle.httparse.specs.Pieces.{Stops}
use Rattle.httparse.proofs.RunLemmas.{run_unique}
use Rattle.httparse.proofs.ChunkLemmas.{chunk_pieces, chunk_from_pieces}
use Rattle.lb_health_http.specs.Chunked.{NoFeed, IsLineText, IsNoChunkLine}
use Rattle.lb_health_http.specs.Internal.Steps.{IsChunkLineOf}
use Rattle.lb_health_http.specs.ChunkLines.{EndsChunkLine}
use Rattle.lb_health_http.proofs.LineLemmas.{line_of}

-- the first n bytes of a line pass the test, and what follows them is a line that begins with a byte that doesn't
pub record ReachesTo (test : ℕ → Bool) (text : List ℕ) (n : ℕ) : Type 0 where
  pub passes : AllPass test (take n text)
  pub stops : Stops test (drop n text)
  pub line : IsLineText (drop n text)
  pub within : n < length text

reaches_front : (test : ℕ → Bool) (front : List ℕ) → NoFeed front → test 10 ≡ false
    → ReachesTo test (front ++ 10 ∷ []) (prefix_len test (front ++ 10 ∷ []))
reaches_front test [] clear none =
    subst (λ (n : ℕ). ReachesTo test (10 ∷ []) n) (sym (ap (λ (b : Bool). cond b (1 + 0) 0) none))
    (record { passes = All-nil (λ v. test v ≡ true); stops = none; line = line_of [] tt; within = omega arith })
reaches_front test (x ∷ front) clear none = by (test x) refl (reaches_front test front clear.1 none)
  where
    by : (b : Bool) → test x ≡ b → ReachesTo test (front ++ 10 ∷ []) (prefix_len test (front ++ 10 ∷ []))
        → ReachesTo test (x ∷ (front ++ 10 ∷ [])) (cond b (1 + prefix_len test (front ++ 10 ∷ [])) 0)
    by true e h =
        let n = prefix_len test (front ++ 10 ∷ []) in
        let one : 1 + n ≡ suc n = omega arith in
        let within = h.within in
        subst (λ (m : ℕ). ReachesTo test (x ∷ (front ++ 10 ∷ [])) m) (sym one) (record {
          passes = All-cons (λ v. test v ≡ true) x (take n (front ++ 10 ∷ [])) e h.passes;
          stops = h.stops;
          line = h.line;
          within = omega arith;
        })
    by false e h = record {
      passes = All-nil (λ v. test v ≡ true);
      stops = e;
      line = line_of (x ∷ front) clear;
      within = omega arith;
    }

-- how far a class reaches in a line
pub reaches : (test : ℕ → Bool) (text : List ℕ) (n : ℕ) → IsLineText text → test 10 ≡ false → n ≡ prefix_len test text
    → ReachesTo test text n
reaches test text n p none is =
    subst (λ (m : ℕ). ReachesTo test text m) (sym is)
    (subst (λ (l : List ℕ). ReachesTo test l (prefix_len test l)) (sym p.is) (reaches_front test p.front p.clear none))

-- what follows the first byte of a line, where that isn't its line feed
pub line_tail : (x : ℕ) (rest : List ℕ) → IsLineText (x ∷ rest) → x ≢ 10 → IsLineText rest
line_tail x rest p other = by p.front p.clear p.is
  where
    by : (front : List ℕ) → NoFeed front → x ∷ rest ≡ front ++ 10 ∷ [] → IsLineText rest
    by [] clear e = absurd (other (cc))
    by (y ∷ front) clear e = record { front = front; clear = clear.1; is = cc }

-- a line that begins with a semicolon: the text behind it reaches to CR LF
pub ends_behind : (text : List ℕ) (n : ℕ) → ReachesTo is_extension_byte text n → drop n text ≡ crlf_bytes
    → EndsChunkLine (59 ∷ text)
ends_behind text n r e = (
  Some (take n text),
  r.passes,
  ap (λ (l : List ℕ). 59 ∷ l) (sym (take-append-drop n text) ∙ ap (λ (l : List ℕ). take n text ++ l) e),
)

pub ends_here : (rest : List ℕ) → rest ≡ crlf_bytes → EndsChunkLine rest
ends_here rest e = (None, tt, e)

pub never_here : (x : ℕ) (rest : List ℕ) → x ≢ 59 → x ∷ rest ≢ crlf_bytes → ¬ (EndsChunkLine (x ∷ rest))
never_here x rest other not_end (None, p, e) = not_end e
never_here x rest other not_end (Some text, p, e) = other (cc)

pub never_behind : (text : List ℕ) (n : ℕ) → ReachesTo is_extension_byte text n → drop n text ≢ crlf_bytes
    → ¬ (EndsChunkLine (59 ∷ text))
never_behind text n r not_end (None, p, e) = let first : ◌≡◌ {A = ℕ} 59 13 = cc in absurd (omega arith)
never_behind text n r not_end (Some other, p, e) =
    let tails : text ≡ other ++ crlf_bytes = cc in
    not_end (run_unique is_extension_byte (take n text) other (drop n text) crlf_bytes r.passes p r.stops refl
    (take-append-drop n text ∙ tails)).1

-- ---- the whole line

-- the digits that a line begins with, the spaces and tabs behind them, and the rest of the line
pub record SplitLine (line digits rest : List ℕ) : Type 0 where
  pub pad : List ℕ
  pub middle : List ℕ
  pub hexadecimal : AllPass is_ascii_hexdigit digits
  pub front : line ≡ digits ++ middle
  pub stops : Stops is_ascii_hexdigit middle
  pub pads : AllPass is_ows pad
  pub back : middle ≡ pad ++ rest
  pub ends : Stops is_ows rest
  pub ending : IsLineText rest

pub split_line : (line digits middle rest : List ℕ) (n m : ℕ) → IsLineText line → n ≡ prefix_len is_ascii_hexdigit line
    → digits ≡ take n line → middle ≡ drop n line → m ≡ prefix_len is_ows middle → rest ≡ drop m middle
    → SplitLine line digits rest
split_line line digits middle rest n m p reach front back more end =
    let one = reaches is_ascii_hexdigit line n p refl reach in
    let text : IsLineText middle = subst IsLineText (sym back) one.line in
    let two = reaches is_ows middle m text refl more in
    record {
      pad = take m middle;
      middle = middle;
      hexadecimal = subst (AllPass is_ascii_hexdigit) (sym front) one.passes;
      front = sym (take-append-drop n line) ∙ ap (λ (l : List ℕ). take n line ++ l) (sym back)
          ∙ ap (λ (l : List ℕ). l ++ middle) (sym front);
      stops = subst (Stops is_ascii_hexdigit) (sym back) one.stops;
      pads = two.passes;
      back = sym (take-append-drop m middle) ∙ ap (λ (l : List ℕ). take m middle ++ l) (sym end);
      ends = subst (Stops is_ows) (sym end) two.stops;
      ending = subst IsLineText (sym end) two.line;
    }

-- a line whose parts are right is a chunk line
pub read_here : (line digits rest : List ℕ) → SplitLine line digits rest → 0 < length digits → length digits ≤ 16
    → EndsChunkLine rest → (size : ℕ) → size ≡ digits_value 16 digits → IsChunkLineOf line size
read_here line digits rest parts some few ending size is =
    let reads = chunk_from_pieces line (digits, (parts.pad, ending.0)) [] (
      parts.middle,
      ((parts.hexadecimal, parts.front, parts.stops), some, few),
      (rest, (parts.pads, parts.back, parts.ends), (ending.1, ending.2)),
    ) in
    (_, reads.0, reads.1 ∙ append-nil _, is)

-- each reading of a chunk line in it gives the same parts
pub not_here : (line digits rest : List ℕ) → SplitLine line digits rest
    → (0 < length digits → length digits ≤ 16 → EndsChunkLine rest → ⊥) → IsNoChunkLine line
not_here line digits rest parts nothing l valid e =
    let pieces = chunk_pieces line l [] (valid, e ∙ sym (append-nil (print_chunk_line l))) in
    let first = pieces.1.0 in
    let same = run_unique is_ascii_hexdigit digits l.digits parts.middle pieces.0 parts.hexadecimal first.0 parts.stops first.2
    (sym parts.front ∙ first.1) in
    let second = pieces.2.1 in
    let padding = run_unique is_ows parts.pad l.pad rest pieces.2.0 parts.pads second.0 parts.ends second.2
    (sym parts.back ∙ same.1 ∙ second.1) in
    let ending = pieces.2.2 in
    nothing
    (subst (λ (d : List ℕ). 0 < length d) (sym same.0) pieces.1.1)
    (subst (λ (d : List ℕ). length d ≤ 16) (sym same.0) pieces.1.2)
    (l.extension, ending.0, padding.1 ∙ ending.1)

-- ---- the number that its digits write

pub hexdigit_small : (d : ℕ) → is_ascii_hexdigit d ≡ true → digit_value d < 16
hexdigit_small d is = grind (arith, nat_tests)

pub hex_more : (i number digit : ℕ) → number < 16 ^ i → digit < 16 → number * 16 + digit < 16 ^ (i + 1)
hex_more i number digit below small = omega (arith, pow_more 16 i)

pub hex_room : (i number : ℕ) → i < 16 → number < 16 ^ i → number < 2 ^ 60
hex_room i number few below =
    let most : 16 ^ i ≤ 16 ^ 15 = pow-le-pow_right {n = 16} (omega arith) {i = i} {j = 15} (omega arith) in
    omega arith

-- ---- what ends a line

no_end : ¬ (EndsChunkLine [])
no_end (None, p, e) = cc
no_end (Some text, p, e) = cc

never_plain : (rest : List ℕ) → get_or rest 0 0 ≢ 59 → rest ≢ crlf_bytes → ¬ (EndsChunkLine rest)
never_plain [] other not_end = no_end
never_plain (x ∷ rest) other not_end = never_here x rest other not_end

pub ends_plain : (r : Bool) (rest : List ℕ) → get_or rest 0 0 ≢ 59 → MatchBool r (rest ≡ crlf_bytes) (rest ≢ crlf_bytes)
    → MatchBool r (EndsChunkLine rest) (¬ (EndsChunkLine rest))
ends_plain true rest other is = ends_here rest is
ends_plain false rest other is = never_plain rest other is

after_semicolon : (r : Bool) (text : List ℕ) (n : ℕ) → ReachesTo is_extension_byte text n
    → MatchBool r (drop n text ≡ crlf_bytes) (drop n text ≢ crlf_bytes)
    → MatchBool r (EndsChunkLine (59 ∷ text)) (¬ (EndsChunkLine (59 ∷ text)))
after_semicolon true text n reach is = ends_behind text n reach is
after_semicolon false text n reach is = never_behind text n reach is

by_first : (r : Bool) (rest : List ℕ) (n : ℕ) → IsLineText rest → get_or rest 0 0 ≡ 59 → n ≡ prefix_len is_extension_byte (drop 1 rest)
    → MatchBool r (drop n (drop 1 rest) ≡ crlf_bytes) (drop n (drop 1 rest) ≢ crlf_bytes)
    → MatchBool r (EndsChunkLine rest) (¬ (EndsChunkLine rest))
by_first r [] n p first reach is = absurd (omega arith)
by_first r (x ∷ rest) n p first reach is =
    let x_is : x ≡ 59 = first in
    let tail : IsLineText rest = line_tail x rest p (λ e. omega arith) in
    subst (λ (y : ℕ). MatchBool r (EndsChunkLine (y ∷ rest)) (¬ (EndsChunkLine (y ∷ rest)))) (sym x_is)
    (after_semicolon r rest n (reaches is_extension_byte rest n tail refl reach) is)

-- the same of the parts of a slice
pub ends_semicolon : (r : Bool) (rest end : List ℕ) (n : ℕ) → IsLineText rest → get_or rest 0 0 ≡ 59
    → n ≡ prefix_len is_extension_byte (take (length rest - 1) (drop 1 rest)) → end ≡ drop n (take (length rest - 1) (drop 1 rest))
    → MatchBool r (end ≡ crlf_bytes) (end ≢ crlf_bytes) → MatchBool r (EndsChunkLine rest) (¬ (EndsChunkLine rest))
ends_semicolon r rest end n p first reach is ended =
    let whole : take (length rest - 1) (drop 1 rest) ≡ drop 1 rest = take_all (length rest - 1) (drop 1 rest)
    (omega (arith, length-drop 1 rest)) in
    by_first r rest n p first (reach ∙ ap (prefix_len is_extension_byte) whole)
    (subst (λ (l : List ℕ). MatchBool r (l ≡ crlf_bytes) (l ≢ crlf_bytes)) (is ∙ ap (drop n) whole) ended)

-- what a test for no digits, or for a line's end, says
pub empty_front : (digits : List ℕ) (r : Bool) → r ≡ (length digits == 0) → r ≡ true → 0 < length digits → ⊥
empty_front digits r is holds some = grind (arith, nat_tests)

pub some_front : (digits : List ℕ) (r : Bool) → r ≡ (length digits == 0) → r ≡ false → 0 < length digits
some_front digits r is fails = grind (arith, nat_tests)

pub not_true : (P : Type 0) (r : Bool) → MatchBool r P (¬ P) → r ≡ false → P → ⊥
not_true P true is fails = absurd (cc)
not_true P false is fails = is

pub is_true : (P : Type 0) (r : Bool) → MatchBool r P (¬ P) → r ≡ true → P
is_true P true is holds = is
is_true P false is holds = absurd (cc)
