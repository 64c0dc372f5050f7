-- Lemmas on bodies in chunks: what their first line says of them, and what is passed.
use Rattle.std.proofs.Common.{◌≡◌, ◌≢◌, inl, inr, ℕ, zero, suc, ◌+◌, ◌-◌, ◌<◌, ◌≤◌, List, [], ◌∷◌, ◌++◌, Ok, Err, length, refl, sym, ap}
use Rattle.std.proofs.Common.{◌∙◌, subst, append_assoc, append-nil, arith}
use Rattle.httparse.specs.Ascii.{crlf_bytes}
use Rattle.httparse.specs.Grammar.{ChunkLine, print_chunk_line, chunk_size}
use Rattle.httparse.proofs.ChunkLemmas.{chunk_line_unique}
use Rattle.lb_health_core.specs.declared.error.CheckError.{CheckError}
use Rattle.lb_health_core.specs.declared.error.CheckError.TheVariants.{BadFraming, EndInMessage, BodyTooLarge, Read, OutOfMemory}
use Rattle.lb_health_http.specs.declared.framing.Framing.TheVariants.{Chunked}
use Rattle.lb_health_http.specs.Body.{BodyOutcome}
use Rattle.lb_health_http.specs.Chunked.{IsLine, Chunk, HasTrailers, HasChunkFault, IsChunkedFault, HasChunked, IsLineText, IsNoChunkLine}
use Rattle.lb_health_http.specs.Chunked.{ContentFault, FaultBehind, HasLineBefore}
use Rattle.lb_health_http.specs.Internal.Steps.{LineFault, IsChunkLineOf, HasContent, ContentOutcome, PassesChunks, PassesLast, StepOutcome}
use Rattle.lb_health_http.proofs.LineLemmas.{line_same, line_longer, no_line, chunk_line_text}
use Rattle.lb_health_http.proofs.BodyLemmas.{fronts_same}

-- what follows the line of a chunk of k bytes, where k isn't 0
pub record AfterSome (k : ℕ) (tail : List ℕ) (n : ℕ) (after : List ℕ) : Type 0 where
  pub more : List ℕ
  pub others : ℕ
  pub content : HasContent k tail more
  pub size : n ≡ k + others
  pub chunked : HasChunked more others after

-- what follows the line of a chunk of k bytes
abbrev pub AfterLine : ℕ → List ℕ → ℕ → List ℕ → Type 0
AfterLine zero tail n after = (n ≡ 0) × HasTrailers 65536 tail after
AfterLine (suc k) tail n after = AfterSome (suc k) tail n after

-- a body in chunks begins with a chunk line
pub record BeginsLine (text : List ℕ) (n : ℕ) (after : List ℕ) : Type 0 where
  pub line : ChunkLine
  pub valid : IsLine line
  pub tail : List ℕ
  pub is : text ≡ print_chunk_line line ++ tail
  pub then : AfterLine (chunk_size line) tail n after

after_some : (k : ℕ) (tail : List ℕ) (n : ℕ) (after : List ℕ) → 0 < k → AfterSome k tail n after → AfterLine k tail n after
after_some zero tail n after some a = absurd (omega arith)
after_some (suc k) tail n after some a = a

pub some_after : (k : ℕ) (tail : List ℕ) (n : ℕ) (after : List ℕ) → 0 < k → AfterLine k tail n after → AfterSome k tail n after
some_after zero tail n after some a = absurd (omega arith)
some_after (suc k) tail n after some a = a

pub begins_line : (text : List ℕ) (n : ℕ) (after : List ℕ) → HasChunked text n after → BeginsLine text n after
begins_line text n after ([], h) = record {
  line = h.1.line;
  valid = h.1.valid;
  tail = h.1.after;
  is = h.1.is;
  then = subst (λ (k : ℕ). AfterLine k h.1.after n after) (sym h.1.empty) (h.0, h.1.trailers);
}
begins_line text n after (c ∷ cs, h) = record {
  line = c.line;
  valid = h.0.line;
  tail = c.content ++ (crlf_bytes ++ h.1.0);
  is = h.1.1 ∙ append_assoc (print_chunk_line c.line) (c.content ++ crlf_bytes) h.1.0
      ∙ ap (λ (l : List ℕ). print_chunk_line c.line ++ l) (append_assoc c.content crlf_bytes h.1.0);
  then = after_some (chunk_size c.line) (c.content ++ (crlf_bytes ++ h.1.0)) n after h.0.some (record {
    more = h.1.0;
    others = h.1.2.0;
    content = (c.content, h.0.sized, refl);
    size = h.1.2.1;
    chunked = (cs, h.1.2.2);
  });
}

-- what follows a line that is that of a chunk of k bytes
pub after_line : (line text : List ℕ) (k n : ℕ) (after : List ℕ) → IsLineText line → IsChunkLineOf line k
    → HasChunked (line ++ text) n after → AfterLine k text n after
after_line line text k n after p is h =
    let b = begins_line (line ++ text) n after h in
    let same = line_same line (print_chunk_line b.line) text b.tail p (chunk_line_text b.line b.valid.valid) b.is in
    let one = chunk_line_unique (print_chunk_line is.0) is.0 b.line [] []
    (is.1, sym (append-nil (print_chunk_line is.0)))
    (b.valid.valid, sym is.2 ∙ same.0 ∙ sym (append-nil (print_chunk_line b.line))) in
    let size : chunk_size b.line ≡ k = sym (ap chunk_size one.0) ∙ sym is.3 in
    subst (λ (l : List ℕ). AfterLine k l n after) (sym same.1) (subst (λ (j : ℕ). AfterLine j b.tail n after) size b.then)

-- ---- faults at a chunk's line

pub line_fault : (room : ℕ) (s r : List ℕ) (e : CheckError) → LineFault 4096 e s r → BodyOutcome room Chunked (Err e) s r
line_fault room s r BadFraming o = (
  (
    o.0,
    r,
    o.1,
    λ more size rest h.
        let b = begins_line (o.0 ++ more) size rest h in
        let longer = line_longer o.0 (print_chunk_line b.line) more b.tail o.3 (chunk_line_text b.line b.valid.valid) b.is in
        let most = b.valid.size in
        omega (arith, o.2),
  ),
  ([], inl o),
)
line_fault room s r EndInMessage o = (
  o.0,
  λ size rest h.
      let b = begins_line s size rest h in
      no_line s (print_chunk_line b.line) b.tail o.1 (chunk_line_text b.line b.valid.valid) b.is,
  ([], inl o),
)
line_fault room s r Read o = tt
line_fault room s r OutOfMemory o = tt
line_fault room s r e o = absurd o

pub no_chunk_line : (room : ℕ) (line s r : List ℕ) → IsLineText line → length line ≤ 4096 → IsNoChunkLine line → s ≡ line ++ r
    → BodyOutcome room Chunked (Err BadFraming) s r
no_chunk_line room line s r p most nothing e = (
  (
    line,
    r,
    e,
    λ more size rest h.
        let b = begins_line (line ++ more) size rest h in
        let same = line_same line (print_chunk_line b.line) more b.tail p (chunk_line_text b.line b.valid.valid) b.is in
        nothing b.line b.valid.valid same.0,
  ),
  ([], inr (inl (line, p, most, nothing, e))),
)

-- what is large after its first line
large_after : (k room n : ℕ) (tail after : List ℕ) → room < k → AfterLine k tail n after → room < n
large_after zero room n tail after more a = absurd (omega arith)
large_after (suc k) room n tail after more a = omega (arith, a.size)

fit_line : (line : List ℕ) (k : ℕ) (is : IsChunkLineOf line k) → length line ≤ 4096 → IsLine is.0
fit_line line k is most = record { valid = is.1; size = subst (λ (l : List ℕ). length l ≤ 4096) is.2 most }

some_behind : (e : CheckError) (k : ℕ) (m r : List ℕ) → 0 < k → ContentFault e k m r → FaultBehind e k m r
some_behind e zero m r some o = absurd (omega arith)
some_behind e (suc k) m r some o = o

-- a fault behind a chunk's line
fault_behind : (e : CheckError) (room k : ℕ) (line s m r : List ℕ) → k ≤ room → length line ≤ 4096 → IsChunkLineOf line k
    → s ≡ line ++ m → FaultBehind e k m r → HasLineBefore e room s r
fault_behind e room k line s m r fits most is same o = (
  is.0,
  fit_line line k is most,
  subst (λ (j : ℕ). j ≤ room) is.3 fits,
  (m, same ∙ ap (λ (l : List ℕ). l ++ m) is.2, subst (λ (j : ℕ). FaultBehind e j m r) is.3 o),
)

-- a fault in the content
pub content_fault : (room k : ℕ) (line s m r : List ℕ) (e : CheckError) → 0 < k → k ≤ room → IsLineText line → length line ≤ 4096
    → IsChunkLineOf line k → s ≡ line ++ m → ContentOutcome k (Err e) m r → BodyOutcome room Chunked (Err e) s r
content_fault room k line s m r BadFraming some fits p most is e (front, tail, split, never, fault) = (
  (
    line ++ front,
    tail,
    e ∙ ap (λ (l : List ℕ). line ++ l) split ∙ sym (append_assoc line front tail),
    λ more size rest h.
        let moved = subst (λ (l : List ℕ). HasChunked l size rest) (append_assoc line front more) h in
        let a = some_after k (front ++ more) size rest some (after_line line (front ++ more) k size rest p is moved) in
        never more a.more a.content,
  ),
  ([], inr (inr (fault_behind BadFraming room k line s m r fits most is e (some_behind BadFraming k m r some fault)))),
)
content_fault room k line s m r EndInMessage some fits p most is e (over, none, fault) = (
  over,
  λ size rest h.
      let moved = subst (λ (l : List ℕ). HasChunked l size rest) e h in
      let a = some_after k m size rest some (after_line line m k size rest p is moved) in
      none a.more a.content,
  ([], inr (fault_behind EndInMessage room k line s m r fits most is e (some_behind EndInMessage k m r some fault))),
)
content_fault room k line s m r Read some fits p most is e o = tt
content_fault room k line s m r e some fits p most is is_e o = absurd o

-- ---- a chunk that is passed

pub chunk_too_large : (room k : ℕ) (line s r : List ℕ) → length line ≤ 4096 → IsChunkLineOf line k → room < k → s ≡ line ++ r
    → BodyOutcome room Chunked (Err BodyTooLarge) s r
chunk_too_large room k line s r most is more e = (
  [],
  (is.0, fit_line line k is most, subst (λ (j : ℕ). room < j) is.3 more, e ∙ ap (λ (l : List ℕ). l ++ r) is.2),
)

pub passes_last : (line s r : List ℕ) → IsLineText line → length line ≤ 4096 → IsChunkLineOf line 0 → s ≡ line ++ r
    → PassesLast s r
passes_last line s r p most is e = record {
  front = line;
  is = e;
  on = λ text after t. (
    [],
    (
      refl,
      record {
        line = is.0;
        valid = fit_line line 0 is most;
        empty = sym is.3;
        after = text;
        is = ap (λ (l : List ℕ). l ++ text) is.2;
        trailers = t;
      },
    ),
  );
  back = λ text n after h. after_line line text 0 n after p is h;
  fault = λ e room text after t. fault_behind e room 0 line (line ++ text) text after (omega arith) most is refl t;
}

regroup : (line content text : List ℕ) → (line ++ (content ++ crlf_bytes)) ++ text ≡ line ++ (content ++ (crlf_bytes ++ text))
regroup line content text =
    append_assoc line (content ++ crlf_bytes) text ∙ ap (λ (l : List ℕ). line ++ l) (append_assoc content crlf_bytes text)

chunk_on : (line content text : List ℕ) (k n : ℕ) (after : List ℕ) → length line ≤ 4096 → 0 < k → IsChunkLineOf line k
    → length content ≡ k → HasChunked text n after → HasChunked ((line ++ (content ++ crlf_bytes)) ++ text) (k + n) after
chunk_on line content text k n after most some is sized h =
    let c : Chunk = record { line = is.0; content = content } in
    let same : chunk_size is.0 ≡ k = sym is.3 in (
      c ∷ h.0,
      (
        record { line = fit_line line k is most; some = omega (arith, same, some); sized = sized ∙ sym same },
        (
          text,
          ap (λ (l : List ℕ). (l ++ (content ++ crlf_bytes)) ++ text) is.2,
          (n, ap (λ (j : ℕ). j + n) (sym same), h.1),
        ),
      ),
    )

chunk_back : (line content text : List ℕ) (k n : ℕ) (after : List ℕ) → IsLineText line → 0 < k → IsChunkLineOf line k
    → length content ≡ k → HasChunked ((line ++ (content ++ crlf_bytes)) ++ text) n after
    → (m : ℕ) × (n ≡ k + m) × HasChunked text m after
chunk_back line content text k n after p some is sized h =
    let tail = content ++ (crlf_bytes ++ text) in
    let moved = subst (λ (l : List ℕ). HasChunked l n after) (regroup line content text) h in
    let a = some_after k tail n after some (after_line line tail k n after p is moved) in
    let same = fronts_same content a.content.0 (crlf_bytes ++ text) (crlf_bytes ++ a.more) (sized ∙ sym a.content.1) a.content.2 in
    let ends : crlf_bytes ++ text ≡ crlf_bytes ++ a.more = same.1 in
    let rest : text ≡ a.more = cc in
    (a.others, a.size, subst (λ (l : List ℕ). HasChunked l a.others after) (sym rest) a.chunked)

chunk_fault : (e : CheckError) (line content text : List ℕ) (k room : ℕ) (after : List ℕ) → length line ≤ 4096 → 0 < k
    → IsChunkLineOf line k → length content ≡ k → IsChunkedFault e room text after
    → IsChunkedFault e (k + room) ((line ++ (content ++ crlf_bytes)) ++ text) after
chunk_fault e line content text k room after most some is sized h =
    let c : Chunk = record { line = is.0; content = content } in
    let same : chunk_size is.0 ≡ k = sym is.3 in
    let left : room ≡ k + room - chunk_size is.0 = omega (arith, same) in (
      c ∷ h.0,
      (
        record { line = fit_line line k is most; some = omega (arith, same, some); sized = sized ∙ sym same },
        omega (arith, same),
        (
          text,
          ap (λ (l : List ℕ). (l ++ (content ++ crlf_bytes)) ++ text) is.2,
          subst (λ (j : ℕ). HasChunkFault e h.0 j text after) left h.1,
        ),
      ),
    )

-- a body that begins with chunks that pass the limit is larger than that
pub large_size : (cs : List Chunk) (limit : ℕ) (text rest : List ℕ) → HasChunkFault BodyTooLarge cs limit text rest
    → (n : ℕ) (after : List ℕ) → HasChunked text n after → limit < n
large_size [] limit text rest large n after h =
    let line = print_chunk_line large.0 in
    let moved = subst (λ (l : List ℕ). HasChunked l n after) large.3 h in
    large_after (chunk_size large.0) limit n rest after large.2
    (after_line line rest (chunk_size large.0) n after (chunk_line_text large.0 large.1.valid) (large.0, large.1.valid, refl, refl) moved)
large_size (c ∷ cs) limit text rest large n after h =
    let line = print_chunk_line c.line in
    let k = chunk_size c.line in
    let moved = subst (λ (l : List ℕ). HasChunked l n after) large.2.1 h in
    let b = chunk_back line c.content large.2.0 k n after (chunk_line_text c.line large.0.line.valid) large.0.some
    (c.line, large.0.line.valid, refl, refl) large.0.sized moved in
    let more = large_size cs (limit - k) large.2.0 rest large.2.2 b.0 after b.2 in
    let fits = large.1 in
    omega (arith, b.1, more, fits)

pub passes_chunk : (line s m r : List ℕ) (k : ℕ) → IsLineText line → length line ≤ 4096 → 0 < k → IsChunkLineOf line k
    → s ≡ line ++ m → HasContent k m r → PassesChunks k s r
passes_chunk line s m r k p most some is e c = record {
  front = line ++ (c.0 ++ crlf_bytes);
  is = e ∙ ap (λ (l : List ℕ). line ++ l) c.2 ∙ sym (regroup line c.0 r);
  on = λ text n after h. chunk_on line c.0 text k n after most some is c.1 h;
  back = λ text n after h. chunk_back line c.0 text k n after p some is c.1 h;
  fault = λ e room text after h. chunk_fault e line c.0 text k room after most some is c.1 h;
}

pub step_last : (room k : ℕ) (line s r : List ℕ) → k ≡ 0 → IsLineText line → length line ≤ 4096 → IsChunkLineOf line k
    → s ≡ line ++ r → StepOutcome room (Ok k) s r
step_last room zero line s r zero_is p most is e = passes_last line s r p most is e
step_last room (suc k) line s r zero_is p most is e = absurd (omega arith)

pub step_passes : (room k : ℕ) (s r : List ℕ) → 0 < k → PassesChunks k s r → StepOutcome room (Ok k) s r
step_passes room zero s r some p = absurd (omega arith)
step_passes room (suc k) s r some p = p

pub passes_step : (room k : ℕ) (s r : List ℕ) → k ≢ 0 → StepOutcome room (Ok k) s r → PassesChunks k s r
passes_step room zero s r some p = absurd (some refl)
passes_step room (suc k) s r some p = p

pub last_step : (room k : ℕ) (s r : List ℕ) → k ≡ 0 → StepOutcome room (Ok k) s r → PassesLast s r
last_step room zero s r is p = p
last_step room (suc k) s r is p = absurd (omega arith)
