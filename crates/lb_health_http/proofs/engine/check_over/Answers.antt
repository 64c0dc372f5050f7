use Rattle.std.proofs.Common.{ℕ, Bool, false, List, is_some, subst, sym}
use Rattle.http.specs.Request.{head_of}
use Rattle.http.specs.declared.response.Parts.{Parts}
use Rattle.lb_stream.specs.Counted.{has_failed}
use Rattle.lb_health_http.specs.Check.{accepts_of, IsGood, CheckOutcome, IsOkOrFailed}
use Rattle.lb_health_http.specs.Request.{asks_for_head}
use Rattle.lb_health_http.proofs.ExactLemmas.{any_writer}
use Rattle.lb_health_http.proofs.Streams.{OnBytes-map}
use Rattle.lb_health_http.proofs.engine.check_over.Goals as goal

pub returns-clause-outcome : goal.returns-clause-outcome
returns-clause-outcome g c other =
    let accepts : Parts → Bool = accepts_of g.V.Validate.accepts c.args.validator.now in
    let limit = c.args.max_body_bytes in
    let r = c.read_answer.result in
    let P : List ℕ → List ℕ → Type 0 = CheckOutcome c.is_head.result limit (is_some c.args.validator.now) accepts r in
    let S : List ℕ → List ℕ → Type 0 =
    CheckOutcome (asks_for_head (head_of c.args.req.now)) limit (is_some c.args.validator.now) accepts r in
    OnBytes-map P S _ _ c.read_answer.ensures.outcome
    (λ x y o. subst (λ (b : Bool). CheckOutcome b limit (is_some c.args.validator.now) accepts r x y) c.is_head.ensures o)

pub returns-clause-only : goal.returns-clause-only
returns-clause-only g c =
    let accepts : Parts → Bool = accepts_of g.V.Validate.accepts c.args.validator.now in
    let limit = c.args.max_body_bytes in
    let r = c.read_answer.result in
    let reader = has_failed c.read_answer.new.reader in
    let writer = has_failed c.send.new.writer in
    let P : List ℕ → List ℕ → Type 0 = λ s t. (other : List ℕ) → IsGood c.is_head.result limit accepts s other
    → IsOkOrFailed reader false r in
    let S : List ℕ → List ℕ → Type 0 = λ s t. (other : List ℕ) → IsGood (asks_for_head (head_of c.args.req.now)) limit accepts s other
    → IsOkOrFailed reader writer r in
    OnBytes-map P S _ _ c.read_answer.ensures.only (λ x y o other good.
    any_writer reader writer r
    (o other (subst (λ (b : Bool). IsGood b limit accepts x other) (sym c.is_head.ensures) good)))
