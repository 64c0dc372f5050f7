use Rattle.std.proofs.Common.{◌≡◌, ◌∙◌, ℕ, ◌+◌, List, []}
use Rattle.lb_stream.specs.Stream.{Takes}
use Rattle.lb_health_http.proofs.Streams.{OnBytes-then}
use Rattle.lbcheck.proofs.RestLemmas.{takes_more}
use Rattle.lbcheck.proofs.stored.count_rest.Goals as goal

pub loop-count-preserved : goal.loop-count-preserved
loop-count-preserved g c =
    let count = c.loop-count.count in
    let more = c.in-Ok.some in
    let P : List ℕ → List ℕ → Type 0 = Takes count in
    let Q : List ℕ → List ℕ → Type 0 = λ s t. Takes more s t × (more ≡ 0 → t ≡ []) in
    let S : List ℕ → List ℕ → Type 0 = Takes (count + more) in (
      OnBytes-then P Q S _ _ _ c.loop-count.invariant.0 c.in-Ok.ensures.bytes (λ x y z p q. takes_more count more x y z p q.0),
      λ failed. c.in-Ok.ensures.kept ∙ c.loop-count.invariant.1 failed,
    )
