use Rattle.std.proofs.Common.{◌≡◌, ℕ, ◌-◌, List, Ok, Err, arith, rules}
use Rattle.lb_health_http.specs.declared.framing.Framing.TheVariants.{Chunked}
use Rattle.lb_health_http.specs.Body.{BodyOutcome}
use Rattle.lb_health_http.specs.Internal.Steps.{TrailersOutcome, PassesChunks, PassesLast, StepOutcome}
use Rattle.lb_health_http.proofs.ChunkLemmas.{last_step}
use Rattle.lb_health_http.proofs.ChunksLemmas.{passes_on, chunks_ended, behind_chunks}
use Rattle.lb_health_http.proofs.Streams.{OnBytes-then}
use Rattle.lb_health_http.proofs.chunk.read_chunked.Goals as goal

pub returns-in-Ok-eq0-clause-outcome : goal.returns-in-Ok-eq0-clause-outcome
returns-in-Ok-eq0-clause-outcome g c =
    let limit = c.args.limit in
    let room = c.loop-reader.room in
    let r = c.read_trailers.result in
    let P : List ℕ → List ℕ → Type 0 = PassesChunks (limit - room) in
    let k = c.in-Ok-eq0.field-0 in
    let last : k ≡ 0 = omega arith in
    let Q : List ℕ → List ℕ → Type 0 = StepOutcome room (Ok k) in
    let M : List ℕ → List ℕ → Type 0 = λ s t. (m : List ℕ) × PassesChunks (limit - room) s m × PassesLast m t in
    let T : List ℕ → List ℕ → Type 0 = TrailersOutcome r in
    let S : List ℕ → List ℕ → Type 0 = BodyOutcome limit Chunked r in
    OnBytes-then M T S _ _ _
    (OnBytes-then P Q M _ _ _ c.loop-reader.invariant.read c.in-Ok-eq0.ensures.outcome (λ x y z p q. (y, p, last_step room k y z last q)))
    c.read_trailers.ensures.outcome
    (λ x y z p o. chunks_ended limit room x p.0 y z r c.loop-reader.invariant.within p.1 p.2 o)

pub loop-reader-preserved : goal.loop-reader-preserved
loop-reader-preserved g c =
    let limit = c.args.limit in
    let room = c.loop-reader.room in
    let n = c.in-Ok.size in
    let P : List ℕ → List ℕ → Type 0 = PassesChunks (limit - room) in
    let Q : List ℕ → List ℕ → Type 0 = StepOutcome room (Ok n) in
    let S : List ℕ → List ℕ → Type 0 = PassesChunks (limit - (room - n)) in
    record {
      read = OnBytes-then P Q S _ _ _ c.loop-reader.invariant.read c.in-Ok.ensures.outcome
          (λ x y z p o. passes_on limit room n x y z c.loop-reader.invariant.within c.in-Ok.ensures.fits c.in-Ok.size-test.1 p o);
      within = omega arith;
      kept = search rules;
    }

pub returns-in-Err-clause-outcome : goal.returns-in-Err-clause-outcome
returns-in-Err-clause-outcome g c =
    let limit = c.args.limit in
    let room = c.loop-reader.room in
    let e = c.in-Err.fault in
    let within = c.loop-reader.invariant.within in
    let P : List ℕ → List ℕ → Type 0 = PassesChunks (limit - room) in
    let Q : List ℕ → List ℕ → Type 0 = BodyOutcome room Chunked (Err e) in
    let S : List ℕ → List ℕ → Type 0 = BodyOutcome limit Chunked (Err e) in
    OnBytes-then P Q S _ _ _ c.loop-reader.invariant.read c.in-Err.ensures.outcome
    (λ x y z p o. behind_chunks limit room (limit - room) x y z e (omega arith) p o)
