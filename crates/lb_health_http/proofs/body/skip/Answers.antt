use Rattle.std.proofs.Common.{◌≡◌, ℕ, ◌-◌, List, [], arith, rules}
use Rattle.lb_stream.specs.Stream.{Takes}
use Rattle.lb_health_http.specs.Internal.Steps.{Passed}
use Rattle.lb_health_http.proofs.BodyLemmas.{passed_more}
use Rattle.lb_health_http.proofs.Streams.{OnBytes-then}
use Rattle.lb_health_http.proofs.body.skip.Goals as goal

pub loop-left-preserved : goal.loop-left-preserved
loop-left-preserved g c =
    let left = c.loop-left.left in
    let count = c.in-Ok.count in
    let P : List ℕ → List ℕ → Type 0 = Passed left c.args.length in
    let Q : List ℕ → List ℕ → Type 0 = λ s t. Takes count s t × (count ≡ 0 → t ≡ []) in
    let S : List ℕ → List ℕ → Type 0 = Passed (left - count) c.args.length in
    record {
      read = OnBytes-then P Q S _ _ _ c.loop-left.invariant.read c.in-Ok.ensures.bytes
          (λ x y z p q. passed_more x y z left c.args.length count p q.0 c.in-Ok.ensures.within);
      within = omega arith;
      kept = search rules;
    }
