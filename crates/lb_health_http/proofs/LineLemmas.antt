-- Lemmas on lines: where the first line feed of a text is.
use Rattle.std.proofs.Common.{◌≡◌, ◌≢◌, ℕ, suc, ◌<◌, ◌≤◌, Bool, true, false, List, [], ◌∷◌, ◌++◌, Option, None, Some, length, refl, sym, ap}
use Rattle.std.proofs.Common.{◌∙◌, subst, append_assoc, append-nil, length-append, arith}
use Rattle.httparse.specs.Grammar.{AllPass, ChunkLine, IsChunkLine, IsExtension, print_chunk_line, print_extension, is_extension_byte}
use Rattle.httparse.specs.Grammar.{is_ows}
use Rattle.std.specs.Char.{is_ascii_hexdigit}
use Rattle.httparse.specs.Ascii.{crlf_bytes}
use Rattle.lb_health_http.specs.Chunked.{NoFeed, IsLineText}

pub NoFeed-append : (a b : List ℕ) → NoFeed a → NoFeed b → NoFeed (a ++ b)
NoFeed-append [] b p q = q
NoFeed-append (x ∷ a) b p q = (p.0, NoFeed-append a b p.1 q)

-- bytes that pass a test that a line feed doesn't pass
pub clear_of : (test : ℕ → Bool) (bytes : List ℕ) → test 10 ≡ false → AllPass test bytes → NoFeed bytes
clear_of test [] none all = tt
clear_of test (x ∷ bytes) none all = (
  (λ e. let passes : test x ≡ true = all 0 0 (omega arith) in
      let same : test x ≡ test 10 = ap test e in
      cc),
  clear_of test bytes none (λ k d h. all (suc k) d (omega arith)),
)

-- two fronts without a line feed, each before one, are the same front
pub fronts_meet : (a b m r : List ℕ) → NoFeed a → NoFeed b → a ++ 10 ∷ m ≡ b ++ 10 ∷ r → (a ≡ b) × (m ≡ r)
fronts_meet [] [] m r p q e = (refl, cc)
fronts_meet [] (y ∷ b) m r p q e = absurd (q.0 (cc))
fronts_meet (x ∷ a) [] m r p q e = absurd (p.0 (cc))
fronts_meet (x ∷ a) (y ∷ b) m r p q e =
    let tails : a ++ 10 ∷ m ≡ b ++ 10 ∷ r = cc in
    let rest = fronts_meet a b m r p.1 q.1 tails in
    let same : a ≡ b = rest.0 in
    let heads : x ≡ y = cc in
    (cc, rest.1)

-- a line and what follows it
line_then : (a m : List ℕ) → (p : IsLineText a) → a ++ m ≡ p.front ++ 10 ∷ m
line_then a m p = ap (λ (l : List ℕ). l ++ m) p.is ∙ append_assoc p.front (10 ∷ []) m

-- two lines at the front of one text are the same line
pub line_same : (a b m r : List ℕ) → IsLineText a → IsLineText b → a ++ m ≡ b ++ r → (a ≡ b) × (m ≡ r)
line_same a b m r p q e =
    let rest = fronts_meet p.front q.front m r p.clear q.clear (sym (line_then a m p) ∙ e ∙ line_then b r q) in
    (p.is ∙ ap (λ (l : List ℕ). l ++ 10 ∷ []) rest.0 ∙ sym q.is, rest.1)

-- bytes without a line feed are no longer than the front of the first line
no_later : (a b m r : List ℕ) → NoFeed a → a ++ m ≡ b ++ 10 ∷ r → length a ≤ length b
no_later [] b m r p e = omega arith
no_later (x ∷ a) [] m r p e = absurd (p.0 (cc))
no_later (x ∷ a) (y ∷ b) m r p e =
    let tails : a ++ m ≡ b ++ 10 ∷ r = cc in
    let rest = no_later a b m r p.1 tails in
    omega arith

-- a line that bytes without a line feed begin is longer than they are
pub line_longer : (a line m r : List ℕ) → NoFeed a → IsLineText line → a ++ m ≡ line ++ r → length a < length line
line_longer a line m r p q e =
    let less = no_later a q.front m r p (e ∙ line_then line r q) in
    omega (arith, ap length q.is, length-append q.front (10 ∷ []))

-- no line ends in bytes without a line feed
pub no_line : (a line r : List ℕ) → NoFeed a → IsLineText line → a ≡ line ++ r → ⊥
no_line a line r p q e =
    let more = line_longer a line [] r p q (append-nil a ∙ e) in
    omega (arith, ap length e, length-append line r)

-- bytes without a line feed, and then one
pub line_of : (a : List ℕ) → NoFeed a → IsLineText (a ++ 10 ∷ [])
line_of a p = record { front = a; clear = p; is = refl }

-- bytes without a line feed, and then CR LF
pub crlf_line : (a : List ℕ) → NoFeed a → IsLineText (a ++ crlf_bytes)
crlf_line a p = record {
  front = a ++ 13 ∷ [];
  clear = NoFeed-append a (13 ∷ []) p ((λ e. cc), tt);
  is = sym (append_assoc a (13 ∷ []) (10 ∷ []));
}

clear_extension : (e : Option (List ℕ)) → IsExtension e → NoFeed (print_extension e)
clear_extension None p = tt
clear_extension (Some text) p = ((λ e. cc), clear_of is_extension_byte text refl p)

-- a chunk line is a line
pub chunk_line_text : (l : ChunkLine) → IsChunkLine l → IsLineText (print_chunk_line l)
unfolding print_chunk_line
chunk_line_text l p =
    let digits = clear_of is_ascii_hexdigit l.digits refl p.digits.2 in
    let pad = clear_of is_ows l.pad refl p.pad in
    let ext = clear_extension l.extension p.extension in
    crlf_line ((l.digits ++ l.pad) ++ print_extension l.extension)
    (NoFeed-append (l.digits ++ l.pad) (print_extension l.extension) (NoFeed-append l.digits l.pad digits pad) ext)

-- ---- a line that is being read

-- the stream ended before it
pub line_ended : (line s m : List ℕ) → NoFeed line → s ≡ line ++ m → m ≡ [] → NoFeed s
line_ended line s m p e none =
    subst NoFeed (sym (e ∙ ap (λ (l : List ℕ). line ++ l) none ∙ append-nil line)) p

pub line_short : (line s m : List ℕ) (most : ℕ) → s ≡ line ++ m → m ≡ [] → length line < most → length s < most
line_short line s m most e none short = omega (arith, ap length e, length-append line m, ap length none)

-- it has one byte more
pub line_grows : (line : List ℕ) (b : ℕ) → NoFeed line → b ≢ 10 → NoFeed (line ++ b ∷ [])
line_grows line b p other = NoFeed-append line (b ∷ []) p (other, tt)

pub line_goes_on : (line s m r : List ℕ) (b : ℕ) → s ≡ line ++ m → m ≡ b ∷ r → s ≡ (line ++ b ∷ []) ++ r
line_goes_on line s m r b e f = e ∙ ap (λ (l : List ℕ). line ++ l) f ∙ sym (append_assoc line (b ∷ []) r)
