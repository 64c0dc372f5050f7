use Rattle.std.proofs.Common.{◌≡◌, ℕ, ◌≤◌, Bool, List, Some, None, is_some, Err, sym, ap, ◌∙◌}
use Rattle.http.specs.declared.response.Parts.{Parts}
use Rattle.lb_health_core.specs.declared.error.CheckError.TheVariants.{BadFraming}
use Rattle.lb_health_http.specs.Body.{BodyOutcome}
use Rattle.lb_health_http.specs.Check.{accepts_of, CheckOutcome}
use Rattle.lb_health_http.specs.Framing.{framing_of}
use Rattle.lb_health_http.specs.Head.{AfterBlank, HeadOutcome}
use Rattle.lb_health_http.specs.Parts.{parts_of}
use Rattle.lb_health_http.proofs.AnswerLemmas.{head_fault, judge_fault, accepted_head, no_framing, body_told}
use Rattle.lb_health_http.proofs.HeadLemmas.{with_blank, begins_with_head}
use Rattle.lb_health_http.proofs.Streams.{OnBytes-then, OnBytes-map}
use Rattle.lb_health_http.proofs.engine.answer.Goals as goal

pub returns-in-Err-clause-outcome : goal.returns-in-Err-clause-outcome
returns-in-Err-clause-outcome g c =
    let accepts : Parts → Bool = accepts_of g.V.Validate.accepts c.args.validator.now in
    let e = c.in-Err.fault in
    let P : List ℕ → List ℕ → Type 0 = HeadOutcome (Err e) in
    let S : List ℕ → List ℕ → Type 0 = CheckOutcome c.args.head_alone c.args.max_body_bytes (is_some c.args.validator.now) accepts
    (Err e) in
    OnBytes-map P S _ _ c.in-Err.ensures.outcome
    (λ x y o. head_fault c.args.head_alone c.args.max_body_bytes (is_some c.args.validator.now) accepts x y e o)

pub returns-in-Err-judge-clause-outcome : goal.returns-in-Err-judge-clause-outcome
returns-in-Err-judge-clause-outcome g c =
    let by = g.V.Validate.accepts in
    let validator = c.args.validator.now in
    let e = c.in-Err-judge.fault in
    let bytes = c.in-Ok.head.bytes.items in
    let parts = c.in-Ok-to_parts.parts in
    let w = c.in-Ok.ensures.whole in
    let same : parts ≡ parts_of w.0 = c.in-Ok-to_parts.ensures w.0 w.1 in
    let P : List ℕ → List ℕ → Type 0 = λ s t. (n : ℕ) × (n ≤ 65536) × AfterBlank n bytes s t in
    let S : List ℕ → List ℕ → Type 0 =
    CheckOutcome c.args.head_alone c.args.max_body_bytes (is_some validator) (accepts_of by validator) (Err e) in
    OnBytes-map P S _ _ c.in-Ok.ensures.outcome (λ x y p.
    judge_fault by validator c.args.head_alone c.args.max_body_bytes x y (with_blank p.2.ends w.0) parts e
    (begins_with_head p.0 bytes x y c.in-Ok.head.parts w.0 p.1 p.2 w.1) same c.in-Err-judge.ensures)

pub returns-in-Some-clause-outcome : goal.returns-in-Some-clause-outcome
returns-in-Some-clause-outcome g c =
    let by = g.V.Validate.accepts in
    let validator = c.args.validator.now in
    let is_head = c.args.head_alone in
    let limit = c.args.max_body_bytes in
    let f = c.in-Some.framing in
    let r = c.read_body.result in
    let bytes = c.in-Ok.head.bytes.items in
    let parts = c.in-Ok-to_parts.parts in
    let w = c.in-Ok.ensures.whole in
    let same : parts ≡ parts_of w.0 = c.in-Ok-to_parts.ensures w.0 w.1 in
    let version = w.1.parts.at.version in
    let told : Some f ≡ framing_of is_head c.in-Ok.head.parts.found.version parts = c.in-Some.ensures in
    let framed : framing_of is_head w.0.minor (parts_of w.0) ≡ Some f =
    ap (λ (v : ℕ). framing_of is_head v (parts_of w.0)) (sym version)
    ∙ ap (λ (q : Parts). framing_of is_head c.in-Ok.head.parts.found.version q) (sym same) ∙ sym told in
    let P : List ℕ → List ℕ → Type 0 = λ s t. (n : ℕ) × (n ≤ 65536) × AfterBlank n bytes s t in
    let Q : List ℕ → List ℕ → Type 0 = BodyOutcome limit f r in
    let S : List ℕ → List ℕ → Type 0 = CheckOutcome is_head limit (is_some validator) (accepts_of by validator) r in
    OnBytes-then P Q S _ _ _ c.in-Ok.ensures.outcome c.read_body.ensures.outcome (λ x y z p o.
    let h = with_blank p.2.ends w.0 in
    let begun = begins_with_head p.0 bytes x y c.in-Ok.head.parts w.0 p.1 p.2 w.1 in
    body_told is_head limit (is_some validator) (accepts_of by validator) x y z h f r
    (accepted_head by validator x y h parts c.in-Ok-judge.field-0 begun same c.in-Ok-judge.ensures) framed o)

pub returns-clause-outcome : goal.returns-clause-outcome
returns-clause-outcome g c =
    let by = g.V.Validate.accepts in
    let validator = c.args.validator.now in
    let is_head = c.args.head_alone in
    let limit = c.args.max_body_bytes in
    let bytes = c.in-Ok.head.bytes.items in
    let parts = c.in-Ok-to_parts.parts in
    let w = c.in-Ok.ensures.whole in
    let same : parts ≡ parts_of w.0 = c.in-Ok-to_parts.ensures w.0 w.1 in
    let version = w.1.parts.at.version in
    let told : None ≡ framing_of is_head c.in-Ok.head.parts.found.version parts = c.in-None.ensures in
    let unframed : framing_of is_head w.0.minor (parts_of w.0) ≡ None =
    ap (λ (v : ℕ). framing_of is_head v (parts_of w.0)) (sym version)
    ∙ ap (λ (q : Parts). framing_of is_head c.in-Ok.head.parts.found.version q) (sym same) ∙ sym told in
    let P : List ℕ → List ℕ → Type 0 = λ s t. (n : ℕ) × (n ≤ 65536) × AfterBlank n bytes s t in
    let S : List ℕ → List ℕ → Type 0 = CheckOutcome is_head limit (is_some validator) (accepts_of by validator) (Err BadFraming) in
    OnBytes-map P S _ _ c.in-Ok.ensures.outcome (λ x y p.
    let h = with_blank p.2.ends w.0 in
    let begun = begins_with_head p.0 bytes x y c.in-Ok.head.parts w.0 p.1 p.2 w.1 in
    no_framing is_head limit (is_some validator) (accepts_of by validator) x y h
    (accepted_head by validator x y h parts c.in-Ok-judge.field-0 begun same c.in-Ok-judge.ensures) unframed)
