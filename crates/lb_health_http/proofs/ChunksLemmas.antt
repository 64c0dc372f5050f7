-- Lemmas on chunks that are passed one after the other, and on faults behind them.
use Rattle.std.proofs.Common.{◌≡◌, ◌≢◌, inr, ℕ, ◌+◌, ◌-◌, ◌≤◌, List, [], ◌++◌, Result, Ok, Err, refl, sym, ap, ◌∙◌, subst, append_assoc}
use Rattle.std.proofs.Common.{arith}
use Rattle.lb_health_core.specs.declared.error.CheckError.{CheckError}
use Rattle.lb_health_core.specs.declared.error.CheckError.TheVariants.{BadFraming, EndInMessage, BodyTooLarge, Read, OutOfMemory}
use Rattle.lb_health_http.specs.declared.framing.Framing.TheVariants.{Chunked}
use Rattle.lb_health_http.specs.Body.{BodyOutcome}
use Rattle.lb_health_http.specs.Chunked.{HasTrailers, HasChunked, IsChunkedFault, HasLineBefore, AreTrailersAtFault}
use Rattle.lb_health_http.specs.Internal.Steps.{TrailersOutcome, PassesChunks, PassesLast, StepOutcome}
use Rattle.lb_health_http.proofs.ChunkLemmas.{passes_step}

pub passes_none : (s : List ℕ) → PassesChunks 0 s s
passes_none s = record {
  front = [];
  is = refl;
  on = λ text n after h. subst (λ (j : ℕ). HasChunked text j after) (omega arith) h;
  back = λ text n after h. (n, omega arith, h);
  fault = λ e room text after h. subst (λ (j : ℕ). IsChunkedFault e j text after) (omega arith) h;
}

pub passes_then : (a b : ℕ) (s m r : List ℕ) → PassesChunks a s m → PassesChunks b m r → PassesChunks (a + b) s r
passes_then a b s m r p q = record {
  front = p.front ++ q.front;
  is = p.is ∙ ap (λ (l : List ℕ). p.front ++ l) q.is ∙ sym (append_assoc p.front q.front r);
  on = λ text n after h.
      let both = p.on (q.front ++ text) (b + n) after (q.on text n after h) in
      let sum : a + (b + n) ≡ a + b + n = omega arith in
      subst (λ (j : ℕ). HasChunked ((p.front ++ q.front) ++ text) j after) sum
      (subst (λ (l : List ℕ). HasChunked l (a + (b + n)) after) (sym (append_assoc p.front q.front text)) both);
  back = λ text n after h.
      let first = p.back (q.front ++ text) n after
      (subst (λ (l : List ℕ). HasChunked l n after) (append_assoc p.front q.front text) h) in
      let second = q.back text first.0 after first.2 in
      (second.0, omega (arith, first.1, second.1), second.2);
  fault = λ e room text after h.
      let both = p.fault e (b + room) (q.front ++ text) after (q.fault e room text after h) in
      let sum : a + (b + room) ≡ a + b + room = omega arith in
      subst (λ (j : ℕ). IsChunkedFault e j ((p.front ++ q.front) ++ text) after) sum
      (subst (λ (l : List ℕ). IsChunkedFault e (a + (b + room)) l after) (sym (append_assoc p.front q.front text)) both);
}

-- the whole body, after its chunks and its last chunk's line
pub chunks_end : (a : ℕ) (s m y r : List ℕ) → PassesChunks a s m → PassesLast m y → HasTrailers 65536 y r → HasChunked s a r
chunks_end a s m y r p q t =
    let body = p.on (q.front ++ y) 0 r (q.on y r t) in
    let sum : a + 0 ≡ a = omega arith in
    let is : p.front ++ (q.front ++ y) ≡ s = sym (p.is ∙ ap (λ (l : List ℕ). p.front ++ l) q.is) in
    subst (λ (l : List ℕ). HasChunked l a r) is (subst (λ (j : ℕ). HasChunked (p.front ++ (q.front ++ y)) j r) sum body)

-- where a fault behind chunks that were passed is
fault_at : (limit room a : ℕ) (s m r : List ℕ) (e : CheckError) → room + a ≡ limit → PassesChunks a s m → IsChunkedFault e room m r
    → IsChunkedFault e limit s r
fault_at limit room a s m r e sum p o =
    let total : a + room ≡ limit = omega (arith, sum) in
    subst (λ (l : List ℕ). IsChunkedFault e limit l r) (sym p.is)
    (subst (λ (j : ℕ). IsChunkedFault e j (p.front ++ m) r) total (p.fault e room m r o))

-- a fault behind chunks that were passed
pub behind_chunks : (limit room a : ℕ) (s m r : List ℕ) (e : CheckError) → room + a ≡ limit → PassesChunks a s m
    → BodyOutcome room Chunked (Err e) m r → BodyOutcome limit Chunked (Err e) s r
behind_chunks limit room a s m r BadFraming sum p (never, fault) = (
  (
    p.front ++ never.0,
    never.1,
    p.is ∙ ap (λ (l : List ℕ). p.front ++ l) never.2 ∙ sym (append_assoc p.front never.0 never.1),
    λ more size rest h.
        let moved = subst (λ (l : List ℕ). HasChunked l size rest) (append_assoc p.front never.0 more) h in
        let b = p.back (never.0 ++ more) size rest moved in
        never.3 more b.0 rest b.2,
  ),
  fault_at limit room a s m r BadFraming sum p fault,
)
behind_chunks limit room a s m r EndInMessage sum p (over, none, fault) = (
  over,
  λ size rest h.
      let b = p.back m size rest (subst (λ (l : List ℕ). HasChunked l size rest) p.is h) in
      none b.0 rest b.2,
  fault_at limit room a s m r EndInMessage sum p fault,
)
behind_chunks limit room a s m r BodyTooLarge sum p o = fault_at limit room a s m r BodyTooLarge sum p o
behind_chunks limit room a s m r Read sum p o = tt
behind_chunks limit room a s m r OutOfMemory sum p o = tt
behind_chunks limit room a s m r e sum p o = absurd o

-- where a fault in the trailers is
last_fault : (room : ℕ) (s m r : List ℕ) (e : CheckError) → PassesLast s m → AreTrailersAtFault e 65536 m r → HasLineBefore e room s r
last_fault room s m r e p o = subst (λ (l : List ℕ). HasLineBefore e room l r) (sym p.is) (p.fault e room m r o)

-- a fault in the trailers
pub behind_last : (room : ℕ) (s m r : List ℕ) (e : CheckError) → PassesLast s m → TrailersOutcome (Err e) m r
    → BodyOutcome room Chunked (Err e) s r
behind_last room s m r BadFraming p (front, tail, split, never, fault) = (
  (
    p.front ++ front,
    tail,
    p.is ∙ ap (λ (l : List ℕ). p.front ++ l) split ∙ sym (append_assoc p.front front tail),
    λ more size rest h.
        let moved = subst (λ (l : List ℕ). HasChunked l size rest) (append_assoc p.front front more) h in
        never more rest (p.back (front ++ more) size rest moved).1,
  ),
  ([], inr (inr (last_fault room s m r BadFraming p fault))),
)
behind_last room s m r EndInMessage p (over, none, fault) = (
  over,
  λ size rest h. none rest (p.back m size rest (subst (λ (l : List ℕ). HasChunked l size rest) p.is h)).1,
  ([], inr (last_fault room s m r EndInMessage p fault)),
)
behind_last room s m r Read p o = tt
behind_last room s m r OutOfMemory p o = tt
behind_last room s m r e p o = absurd o

-- the end of the loop over chunks
pub chunks_ended : (limit room : ℕ) (s m y r : List ℕ) (e : Result Unit CheckError) → room ≤ limit
    → PassesChunks (limit - room) s m → PassesLast m y → TrailersOutcome e y r → BodyOutcome limit Chunked e s r
chunks_ended limit room s m y r (Ok _) within p q o = (limit - room, omega arith, chunks_end (limit - room) s m y r p q o)
chunks_ended limit room s m y r (Err e) within p q o =
    behind_chunks limit room (limit - room) s m r e (omega arith) p (behind_last room m y r e q o)

-- one chunk more
pub passes_on : (limit room n : ℕ) (s m r : List ℕ) → room ≤ limit → n ≤ room → n ≢ 0 → PassesChunks (limit - room) s m
    → StepOutcome room (Ok n) m r → PassesChunks (limit - (room - n)) s r
passes_on limit room n s m r within fits some p o =
    let sum : limit - room + n ≡ limit - (room - n) = omega arith in
    subst (λ (j : ℕ). PassesChunks j s r) sum (passes_then (limit - room) n s m r p (passes_step room n m r some o))
