use Rattle.std.proofs.Common.{◌≡◌, ℕ, ◌<◌, ◌≤◌, List, ◌++◌, Ok, Err, length, subst, arith}
use Rattle.lb_health_core.specs.declared.error.CheckError.TheVariants.{BadFraming, BodyTooLarge}
use Rattle.lb_health_http.specs.declared.framing.Framing.TheVariants.{Chunked}
use Rattle.lb_health_http.specs.Body.{BodyOutcome}
use Rattle.lb_health_http.specs.Chunked.{IsNoChunkLine}
use Rattle.lb_health_http.specs.Internal.Steps.{LineFault, IsChunkLineOf, HasContent, ContentOutcome, StepOutcome}
use Rattle.lb_health_http.proofs.ChunkLemmas.{line_fault, no_chunk_line, chunk_too_large, content_fault, passes_chunk, step_last}
use Rattle.lb_health_http.proofs.ChunkLemmas.{step_passes}
use Rattle.lb_health_http.proofs.Streams.{OnBytes-then, OnBytes-map}
use Rattle.lb_health_http.proofs.chunk.next_chunk.Goals as goal

pub returns-in-Err-clause-outcome : goal.returns-in-Err-clause-outcome
returns-in-Err-clause-outcome g c =
    let e = c.in-Err.fault in
    let P : List ℕ → List ℕ → Type 0 = LineFault 4096 e in
    let S : List ℕ → List ℕ → Type 0 = BodyOutcome c.args.room Chunked (Err e) in
    OnBytes-map P S _ _ c.in-Err.ensures.outcome (λ x y o. line_fault c.args.room x y e o)

pub returns-in-None-clause-outcome : goal.returns-in-None-clause-outcome
returns-in-None-clause-outcome g c =
    let line = c.in-Ok.line.items in
    let nothing : IsNoChunkLine line = subst IsNoChunkLine c.deref.ensures.value c.in-None.ensures in
    let short : length line ≤ 4096 = let most = c.in-Ok.ensures.line.1 in let len = c.in-Ok.line.ok in omega arith in
    let P : List ℕ → List ℕ → Type 0 = λ s t. s ≡ line ++ t in
    let S : List ℕ → List ℕ → Type 0 = BodyOutcome c.args.room Chunked (Err BadFraming) in
    OnBytes-map P S _ _ c.in-Ok.ensures.outcome
    (λ x y e. no_chunk_line c.args.room line x y c.in-Ok.ensures.line.0 short nothing e)

pub returns-then-size-room-clause-outcome : goal.returns-then-size-room-clause-outcome
returns-then-size-room-clause-outcome g c =
    let line = c.in-Ok.line.items in
    let k = c.in-Some.size in
    let P' : List ℕ → Type 0 = λ l. IsChunkLineOf l k in
    let is : IsChunkLineOf line k = subst P' c.deref.ensures.value c.in-Some.ensures in
    let short : length line ≤ 4096 = let most = c.in-Ok.ensures.line.1 in let len = c.in-Ok.line.ok in omega arith in
    let P : List ℕ → List ℕ → Type 0 = λ s t. s ≡ line ++ t in
    let S : List ℕ → List ℕ → Type 0 = BodyOutcome c.args.room Chunked (Err BodyTooLarge) in
    OnBytes-map P S _ _ c.in-Ok.ensures.outcome
    (λ x y e. chunk_too_large c.args.room k line x y short is c.if-size-room.true e)

pub returns-then-size-eq0-clause-outcome : goal.returns-then-size-eq0-clause-outcome
returns-then-size-eq0-clause-outcome g c =
    let line = c.in-Ok.line.items in
    let k = c.in-Some.size in
    let P' : List ℕ → Type 0 = λ l. IsChunkLineOf l k in
    let is : IsChunkLineOf line k = subst P' c.deref.ensures.value c.in-Some.ensures in
    let short : length line ≤ 4096 = let most = c.in-Ok.ensures.line.1 in let len = c.in-Ok.line.ok in omega arith in
    let zero_is : k ≡ 0 = c.if-size-eq0.true in
    let P : List ℕ → List ℕ → Type 0 = λ s t. s ≡ line ++ t in
    let S : List ℕ → List ℕ → Type 0 = StepOutcome c.args.room (Ok k) in
    OnBytes-map P S _ _ c.in-Ok.ensures.outcome
    (λ x y e. step_last c.args.room k line x y zero_is c.in-Ok.ensures.line.0 short is e)

pub returns-in-Ok-read_content-clause-outcome : goal.returns-in-Ok-read_content-clause-outcome
returns-in-Ok-read_content-clause-outcome g c =
    let line = c.in-Ok.line.items in
    let k = c.in-Some.size in
    let P' : List ℕ → Type 0 = λ l. IsChunkLineOf l k in
    let is : IsChunkLineOf line k = subst P' c.deref.ensures.value c.in-Some.ensures in
    let short : length line ≤ 4096 = let most = c.in-Ok.ensures.line.1 in let len = c.in-Ok.line.ok in omega arith in
    let some : 0 < k = let other = c.if-size-eq0.false in omega arith in
    let P : List ℕ → List ℕ → Type 0 = λ s t. s ≡ line ++ t in
    let Q : List ℕ → List ℕ → Type 0 = HasContent k in
    let S : List ℕ → List ℕ → Type 0 = StepOutcome c.args.room (Ok k) in
    OnBytes-then P Q S _ _ _ c.in-Ok.ensures.outcome c.in-Ok-read_content.ensures.outcome
    (λ x y z e o. step_passes c.args.room k x z some (passes_chunk line x y z k c.in-Ok.ensures.line.0 short some is e o))

pub returns-clause-outcome : goal.returns-clause-outcome
returns-clause-outcome g c =
    let line = c.in-Ok.line.items in
    let k = c.in-Some.size in
    let f = c.in-Err-read_content.fault in
    let P' : List ℕ → Type 0 = λ l. IsChunkLineOf l k in
    let is : IsChunkLineOf line k = subst P' c.deref.ensures.value c.in-Some.ensures in
    let short : length line ≤ 4096 = let most = c.in-Ok.ensures.line.1 in let len = c.in-Ok.line.ok in omega arith in
    let some : 0 < k = let other = c.if-size-eq0.false in omega arith in
    let fits : k ≤ c.args.room = let other = c.if-size-room.false in omega arith in
    let P : List ℕ → List ℕ → Type 0 = λ s t. s ≡ line ++ t in
    let Q : List ℕ → List ℕ → Type 0 = ContentOutcome k (Err f) in
    let S : List ℕ → List ℕ → Type 0 = BodyOutcome c.args.room Chunked (Err f) in
    OnBytes-then P Q S _ _ _ c.in-Ok.ensures.outcome c.in-Err-read_content.ensures.outcome
    (λ x y z e o. content_fault c.args.room k line x y z f some fits c.in-Ok.ensures.line.0 short is e o)
