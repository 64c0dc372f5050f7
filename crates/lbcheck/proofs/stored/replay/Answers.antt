use Rattle.std.proofs.Common.{◌≡◌, ◌⊎◌, ℕ, Bool, List, [], is_some}
use Rattle.http.specs.Request.{head_of}
use Rattle.http.specs.declared.response.Parts.{Parts}
use Rattle.lb_stream.specs.Counted.{has_failed}
use Rattle.lb_stream.specs.Stream.{Takes}
use Rattle.lb_health_http.specs.Check.{accepts_of, IsGood, CheckOutcome, IsOkOrFailed}
use Rattle.lb_health_http.specs.Request.{asks_for_head}
use Rattle.lb_health_http.proofs.Streams.{OnBytes-then}
use Rattle.lbcheck.specs.Replay.{ReplayOutcome, GoodPasses}
use Rattle.lbcheck.proofs.RestLemmas.{either_failed}
use Rattle.lbcheck.proofs.stored.replay.Goals as goal

pub returns-clause-outcome : goal.returns-clause-outcome
returns-clause-outcome g c other =
    let accepts : Parts → Bool = accepts_of g.V.Validate.accepts c.args.validator.now in
    let head_alone = asks_for_head (head_of c.args.req.now) in
    let limit = c.args.max_body_bytes in
    let r = c.check_over-outcome.result in
    let n = c.count_rest-unread.result in
    let has_validator = is_some c.args.validator.now in
    let P : List ℕ → List ℕ → Type 0 = CheckOutcome head_alone limit has_validator accepts r in
    let Q : List ℕ → List ℕ → Type 0 = Takes n in
    let S : List ℕ → List ℕ → Type 0 = ReplayOutcome head_alone limit has_validator accepts r n in
    OnBytes-then P Q S _ _ _ (c.check_over-outcome.ensures.outcome other) c.count_rest-unread.ensures.counted
    (λ x y z p q. (y, p, q))

pub returns-clause-only : goal.returns-clause-only
returns-clause-only g c =
    let accepts : Parts → Bool = accepts_of g.V.Validate.accepts c.args.validator.now in
    let head_alone = asks_for_head (head_of c.args.req.now) in
    let limit = c.args.max_body_bytes in
    let r = c.check_over-outcome.result in
    let reader = has_failed c.check_over-outcome.new.reader in
    let writer = has_failed c.check_over-outcome.new.writer in
    let P : List ℕ → List ℕ → Type 0 = λ s t. (good : List ℕ) → IsGood head_alone limit accepts s good → IsOkOrFailed reader writer r in
    let Q : List ℕ → List ℕ → Type 0 = Takes c.count_rest-unread.result in
    let S : List ℕ → List ℕ → Type 0 = GoodPasses head_alone limit accepts r in
    OnBytes-then P Q S _ _ _ c.check_over-outcome.ensures.only c.count_rest-unread.ensures.counted
    (λ x y z p q good h. either_failed reader writer r (p good h))

pub returns-clause-whole : goal.returns-clause-whole
returns-clause-whole g c kept =
    let accepts : Parts → Bool = accepts_of g.V.Validate.accepts c.args.validator.now in
    let limit = c.args.max_body_bytes in
    let r = c.check_over-outcome.result in
    let n = c.count_rest-unread.result in
    let P : List ℕ → List ℕ → Type 0 = λ s t. (good : List ℕ) → IsGood (asks_for_head (head_of c.args.req.now)) limit accepts s good
    → IsOkOrFailed (has_failed c.check_over-outcome.new.reader) (has_failed c.check_over-outcome.new.writer) r in
    let Q : List ℕ → List ℕ → Type 0 = λ s t. (t ≡ []) ⊎ (n ≡ 18446744073709551615) in
    OnBytes-then P Q Q _ _ _ c.check_over-outcome.ensures.only (c.count_rest-unread.ensures.whole kept) (λ x y z p q. q)
