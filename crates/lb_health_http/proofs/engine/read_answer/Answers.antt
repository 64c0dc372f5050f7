use Rattle.std.proofs.Common.{ℕ, Bool, false, List, is_some}
use Rattle.http.specs.declared.response.Parts.{Parts}
use Rattle.lb_stream.specs.Counted.{has_failed}
use Rattle.lb_health_http.specs.Check.{accepts_of, IsGood, CheckOutcome, IsOkOrFailed}
use Rattle.lb_health_http.proofs.ExactLemmas.{only_good, or_failed}
use Rattle.lb_health_http.proofs.Streams.{OnBytes-map}
use Rattle.lb_health_http.proofs.engine.read_answer.Goals as goal

pub returns-clause-only : goal.returns-clause-only
returns-clause-only g c =
    let accepts : Parts → Bool = accepts_of g.V.Validate.accepts c.args.validator.now in
    let is_head = c.args.head_alone in
    let limit = c.args.max_body_bytes in
    let r = c.answer.result in
    let P : List ℕ → List ℕ → Type 0 = CheckOutcome is_head limit (is_some c.args.validator.now) accepts r in
    let S : List ℕ → List ℕ → Type 0 = λ s t. (other : List ℕ) → IsGood is_head limit accepts s other
    → IsOkOrFailed (has_failed c.answer.new.reader) false r in
    OnBytes-map P S _ _ c.answer.ensures.outcome (λ x y o other good.
    or_failed (has_failed c.answer.new.reader) false r c.answer.ensures.failed
    (only_good is_head limit accepts (is_some c.args.validator.now) x y other r o good))
