use Rattle.std.proofs.Common.{◌≡◌, ℕ, List, ◌∷◌, Err}
use Rattle.lb_stream.specs.Stream.{Takes}
use Rattle.lb_health_http.specs.Internal.Steps.{SkipOutcome, ExpectOutcome, ContentOutcome}
use Rattle.lb_health_http.proofs.BodyLemmas.{content_cut, content_cr_fault, content_second}
use Rattle.lb_health_http.proofs.Streams.{OnBytes-then, OnBytes-map}
use Rattle.lb_health_http.proofs.chunk.read_content.Goals as goal

pub returns-in-Err-clause-outcome : goal.returns-in-Err-clause-outcome
returns-in-Err-clause-outcome g c =
    let e = c.in-Err.fault in
    let P : List ℕ → List ℕ → Type 0 = SkipOutcome c.args.size (Err e) in
    let S : List ℕ → List ℕ → Type 0 = ContentOutcome c.args.size (Err e) in
    OnBytes-map P S _ _ c.in-Err.ensures.outcome (λ x y o. content_cut c.args.size x y e o)

pub returns-in-Err-expect-clause-outcome : goal.returns-in-Err-expect-clause-outcome
returns-in-Err-expect-clause-outcome g c =
    let e = c.in-Err-expect.fault in
    let P : List ℕ → List ℕ → Type 0 = Takes c.args.size in
    let Q : List ℕ → List ℕ → Type 0 = ExpectOutcome 13 (Err e) in
    let S : List ℕ → List ℕ → Type 0 = ContentOutcome c.args.size (Err e) in
    OnBytes-then P Q S _ _ _ c.in-Ok.ensures.outcome c.in-Err-expect.ensures.outcome
    (λ x y z p q. content_cr_fault c.args.size x y z e p q)

pub returns-clause-outcome : goal.returns-clause-outcome
returns-clause-outcome g c =
    let r = c.expect-2.result in
    let P : List ℕ → List ℕ → Type 0 = Takes c.args.size in
    let Q : List ℕ → List ℕ → Type 0 = λ s t. s ≡ 13 ∷ t in
    let M : List ℕ → List ℕ → Type 0 = λ s t. (m : List ℕ) × Takes c.args.size s m × (m ≡ 13 ∷ t) in
    let T : List ℕ → List ℕ → Type 0 = ExpectOutcome 10 r in
    let S : List ℕ → List ℕ → Type 0 = ContentOutcome c.args.size r in
    OnBytes-then M T S _ _ _
    (OnBytes-then P Q M _ _ _ c.in-Ok.ensures.outcome c.in-Ok-expect.ensures.outcome (λ x y z p q. (y, p, q)))
    c.expect-2.ensures.outcome
    (λ x y z p q. content_second c.args.size x p.0 y z r p.1 p.2 q)
